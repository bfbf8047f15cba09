-- The values of tokens that come one after another.
use Rattle.std.specs.Prelude.{◌≡◌, ℕ, ◌+◌, List, ◌++◌, map, take, drop}
use Rattle.ra_token.specs.declared.answers.Token.{Token}
use Rattle.ra_token.specs.TokenList.{tokens, tokens_before}
use Rattle.ra_token.specs.Reads.{IsBetween}

-- what the digits of a token are worth
abbrev pub value_of : Token → ℕ
value_of t = t.value

-- the values of n tokens, or of all that are left, from token number k on
unfoldable pub values_from : List ℕ → ℕ → ℕ → List ℕ
values_from bytes k n = map value_of (take n (drop k (tokens bytes)))

-- between two places there are n tokens, and their values were added at the end of a list
pub record AddsValues (bytes : List ℕ) (from place n : ℕ) (before after : List ℕ) : Type 0 where
  pub between : IsBetween bytes place
  pub given : tokens_before bytes place ≡ tokens_before bytes from + n
  pub values : after ≡ before ++ values_from bytes (tokens_before bytes from) n
