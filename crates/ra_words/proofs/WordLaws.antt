-- The bytes of a word by its place.
use Rattle.std.proofs.Common.{◌≡◌, ℕ, ◌<◌, ◌≤◌, List, [], length, map, get_or, Bor, String, sym, ap, ◌∙◌, arith}
use Rattle.std.proofs.lemmas.List.{get_or-map, length-map, get_or_past}
use Rattle.std.specs.String.{string_bytes}
use Rattle.std.specs.declared.alloc.Global.{Global}
use Rattle.std.specs.Prelude.{Some, None, option_map, unwrap_or, codes}
use Rattle.clap.specs.Words.{matched_of, raw_values}
use Rattle.clap.specs.declared.parser.matches.Found.{Found}
use Rattle.ra_words.specs.Words.{texts, word_at}
use Rattle.ra_words.specs.Lines.{plain_of}

module _ (words : List (String Global)) (place : ℕ) where
  pub word_read : (word : String Global) → place < length words → word ≡ get_or words place word →
      string_bytes word ≡ word_at (texts words) place
  unfolding word_at
  word_read word within read = ap string_bytes read ∙ sym (get_or-map string_bytes words place word [] within)

  pub word_past : length words ≤ place → word_at (texts words) place ≡ []
  unfolding word_at
  word_past past = get_or_past (texts words) place [] (omega (arith, length-map words string_bytes))

module _ (words : List (Bor (List ℕ))) (place : ℕ) where
  pub str_read : (word : Bor (List ℕ)) → place < length words →
      (get_or words place word).now ≡ word_at (map (λ w. w.now) words) place
  unfolding word_at
  str_read word within = sym (get_or-map (λ w. w.now) words place word [] within)

  pub str_past : length words ≤ place → word_at (map (λ w. w.now) words) place ≡ []
  unfolding word_at
  str_past past = get_or_past (map (λ w. w.now) words) place [] (omega (arith, length-map words (λ w. w.now)))

-- the plain words that were found, by what the matches give
pub some_plain : (found : Found) (words : List (List ℕ)) (place : ℕ) →
    Some words ≡ option_map raw_values (matched_of found (codes "plain")) →
    word_at words place ≡ word_at (plain_of found) place
some_plain found words place is = ap (λ o. word_at (unwrap_or o []) place) is

pub no_plain : (found : Found) (place : ℕ) → None ≡ option_map raw_values (matched_of found (codes "plain")) →
    [] ≡ word_at (plain_of found) place
unfolding word_at
no_plain found place is = sym (get_or_past [] place [] (omega arith)) ∙ ap (λ o. word_at (unwrap_or o []) place) is
