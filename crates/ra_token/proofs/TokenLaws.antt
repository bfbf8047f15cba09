-- How many tokens come before a place, and which is next.
use Rattle.std.proofs.Common.{◌≡◌, ℕ, suc, ◌+◌, ◌<◌, true, false, List, length, slice_get, Some, None, sym, ap, ◌∙◌, add-one}
use Rattle.std.proofs.Common.{arith}
use Rattle.std.proofs.lemmas.List.{length-map}
use Rattle.std.proofs.lemmas.Option.{slice_get-map, slice_get-get_or, slice_get_past}
use Rattle.std.specs.Option.{option_map}
use Rattle.ra_base.specs.Sums.{count, pick}
use Rattle.ra_base.proofs.Counts.{count_none, count_yes, count_no}
use Rattle.ra_base.proofs.Picks.{pick_length, pick_place}
use Rattle.ra_token.specs.Runs.{worth, run_start, ends_at}
use Rattle.ra_token.specs.Faults.{fault_place}
use Rattle.ra_token.specs.TokenList.{token_to, tokens, tokens_before, GaveAll}
use Rattle.ra_token.specs.Scan.{token_of}

module _ (bytes : List ℕ) where
  pub before_none : tokens_before bytes 0 ≡ 0
  unfolding tokens_before
  before_none = count_none (ends_at bytes)

  pub before_yes : (k : ℕ) → ends_at bytes k ≡ true → tokens_before bytes (suc k) ≡ tokens_before bytes k
      + 1
  unfolding tokens_before
  before_yes k ends = ap (λ n. count n (ends_at bytes)) (sym (add-one k)) ∙ count_yes k (ends_at bytes) ends

  pub before_no : (k : ℕ) → ends_at bytes k ≡ false → tokens_before bytes (suc k) ≡ tokens_before bytes k
  unfolding tokens_before
  before_no k on = ap (λ n. count n (ends_at bytes)) (sym (add-one k)) ∙ count_no k (ends_at bytes) on

  -- all tokens come before the first fault
  pub before_all : tokens_before bytes (fault_place bytes) ≡ length (tokens bytes)
  unfolding tokens_before tokens
  before_all =
      sym (length-map (pick (fault_place bytes) (ends_at bytes)) (token_to bytes)
      ∙ pick_length (fault_place bytes) (ends_at bytes))

  -- after the last token there is none
  pub past_all : (n : ℕ) → GaveAll bytes n → slice_get (tokens bytes) n ≡ None
  past_all n all = slice_get_past (tokens bytes) n (omega (arith, all))

  -- the token with its last digit here, by its number
  pub token_number : (k : ℕ) → ends_at bytes k ≡ true → k < fault_place bytes →
      slice_get (tokens bytes) (tokens_before bytes k) ≡ Some (token_to bytes k)
  unfolding tokens_before tokens
  token_number k ends before =
      let picked = pick_place (fault_place bytes) k (ends_at bytes) before ends in
      slice_get-map (token_to bytes) (pick (fault_place bytes) (ends_at bytes)) (count k (ends_at bytes))
      ∙ ap (option_map (token_to bytes))
      (slice_get-get_or (pick (fault_place bytes) (ends_at bytes)) (count k (ends_at bytes)) 0 picked.0
      ∙ ap (λ (j : ℕ). Some j) picked.1)

  pub token_is : (start k value : ℕ) → worth bytes (suc k) ≡ value → run_start bytes k ≡ start →
      token_to bytes k ≡ token_of value start
  unfolding token_to
  token_is start k value worth_is start_is = cc
