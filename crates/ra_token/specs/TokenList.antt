-- The tokens of a list of bytes, and what a reader that gave some of them answers next.
use Rattle.std.specs.Prelude.{◌≡◌, ℕ, suc, ◌⊎◌, List, length, map, slice_get, Option, Some, None, Result, Ok, Err}
use Rattle.ra_base.specs.Sums.{count, pick}
use Rattle.ra_token.specs.declared.answers.Token.{Token}
use Rattle.ra_token.specs.declared.answers.TokenFault.{TokenFault}
use Rattle.ra_token.specs.declared.answers.TokenFault.TheVariants.{ReadFault}
use Rattle.ra_token.specs.Runs.{worth, run_start, ends_at}
use Rattle.ra_token.specs.Faults.{first_fault, fault_place}

-- the run with its last digit at k, as a token
unfoldable pub token_to : List ℕ → ℕ → Token
token_to bytes k = record { value = worth bytes (suc k); at = run_start bytes k }

-- the runs that end before the first fault, in order
unfoldable pub tokens : List ℕ → List Token
tokens bytes = map (token_to bytes) (pick (fault_place bytes) (ends_at bytes))

-- how many runs have their last digit before a place
unfoldable pub tokens_before : List ℕ → ℕ → ℕ
tokens_before bytes place = count place (ends_at bytes)

-- all tokens were given, n of them
abbrev pub GaveAll : List ℕ → ℕ → Type 0
GaveAll bytes n = n ≡ length (tokens bytes)

-- what comes after n tokens: token n; or, if there is none, the end or the first fault; or a failed fetch
abbrev pub IsAnswer : List ℕ → ℕ → Result (Option Token) TokenFault → Type 0
IsAnswer bytes n (Ok (Some token)) = slice_get (tokens bytes) n ≡ Some token
IsAnswer bytes n (Ok None) = GaveAll bytes n × (first_fault bytes ≡ None)
IsAnswer bytes n (Err fault) =
    (fault ≡ ReadFault) ⊎ (GaveAll bytes n × (first_fault bytes ≡ Some fault))
