-- Faults at a place, and the first of them.
use Rattle.std.proofs.Common.{inl, inr, ◌≡◌, ℕ, suc, ◌<◌, ◌≤◌, true, false, cond, ◌==◌, nat_lt, List, length, get_or, Option, Some, None, is_some, unwrap_or, sym, refl, ap, ◌∙◌, arith}
use Rattle.std.proofs.lemmas.Option.{cond_some, none-some}
use Rattle.std.proofs.lemmas.Bool.{cond-true, cond-false, cases_lt, lt-ltb, le-ltb, ne_eqb}
use Rattle.ra_base.specs.Searches.{first}
use Rattle.ra_base.proofs.Searches.{first_found, first_none_from, first_none_at, first_some_at}
use Rattle.ra_token.specs.declared.answers.TheConstants.{LARGEST, PLACE_LIMIT}
use Rattle.ra_token.specs.declared.answers.TokenFault.{TokenFault}
use Rattle.ra_token.specs.declared.answers.TokenFault.TheVariants.{BadByte, TooLarge, TooLong}
use Rattle.ra_token.specs.Runs.{digit_at, is_blank, worth, run_start}
use Rattle.ra_token.specs.Faults.{digit_fault, other_fault, fault_at, first_fault, faulty_place, fault_place}

-- what is found is the place itself
unwrapped_low : (n k : ℕ) (found : Option ℕ) → k ≤ n → ((place : ℕ) → found ≡ Some place → k ≤ place) →
    k ≤ unwrap_or found n
unwrapped_low n k None within each = within
unwrapped_low n k (Some place) within each = each place refl

module _ (bytes : List ℕ) where
  pub fault_limit : fault_at bytes PLACE_LIMIT ≡ Some TooLong
  unfolding fault_at
  fault_limit = refl

  module _ (k : ℕ) where
    module _ (below : k < PLACE_LIMIT) where
      fault_below : fault_at bytes k ≡ cond (digit_at bytes k) (digit_fault bytes k) (other_fault bytes k)
      unfolding fault_at
      fault_below = cond-false (k == PLACE_LIMIT) _ _ (ne_eqb k PLACE_LIMIT (λ e. omega arith))

      pub fault_small : digit_at bytes k ≡ true → worth bytes (suc k) ≤ LARGEST → fault_at bytes k ≡ None
      unfolding digit_fault
      fault_small digit small =
          fault_below ∙ cond-true (digit_at bytes k) _ _ digit
          ∙ cond-false (nat_lt LARGEST (worth bytes (suc k))) _ _ (le-ltb LARGEST (worth bytes (suc k)) small)

      pub fault_large : digit_at bytes k ≡ true → LARGEST < worth bytes (suc k) →
          fault_at bytes k ≡ Some (TooLarge (run_start bytes k))
      unfolding digit_fault
      fault_large digit large =
          fault_below ∙ cond-true (digit_at bytes k) _ _ digit
          ∙ cond-true (nat_lt LARGEST (worth bytes (suc k))) _ _ (lt-ltb LARGEST (worth bytes (suc k)) large)

      pub fault_blank : digit_at bytes k ≡ false → is_blank (get_or bytes k 0) ≡ true → fault_at bytes k ≡ None
      unfolding other_fault
      fault_blank other blank =
          fault_below ∙ cond-false (digit_at bytes k) _ _ other
          ∙ cond-true (is_blank (get_or bytes k 0)) _ _ blank

      pub fault_byte : digit_at bytes k ≡ false → is_blank (get_or bytes k 0) ≡ false →
          fault_at bytes k ≡ Some (BadByte k (get_or bytes k 0))
      unfolding other_fault
      fault_byte other bad =
          fault_below ∙ cond-false (digit_at bytes k) _ _ other
          ∙ cond-false (is_blank (get_or bytes k 0)) _ _ bad

    -- the first fault is at the place before which no fault shows
    pub first_fault_at : (fault : TokenFault) → k < length bytes → first k (fault_at bytes) ≡ None →
        fault_at bytes k ≡ Some fault → first_fault bytes ≡ Some fault
    unfolding first_fault
    first_fault_at fault within before here = first_found k (length bytes) (fault_at bytes) fault within before here

  pub no_first_fault : first (length bytes) (fault_at bytes) ≡ None → first_fault bytes ≡ None
  unfolding first_fault
  no_first_fault none = none

  not_faulty : (k : ℕ) → fault_at bytes k ≡ None → faulty_place bytes k ≡ None
  unfolding faulty_place
  not_faulty k none = cond-false (is_some (fault_at bytes k)) _ _ (ap is_some none)

  module _ (k : ℕ) where
    is_faulty : (fault : TokenFault) → fault_at bytes k ≡ Some fault → faulty_place bytes k ≡ Some k
    unfolding faulty_place
    is_faulty fault here = cond-true (is_some (fault_at bytes k)) _ _ (ap is_some here)

    none_faulty : first k (fault_at bytes) ≡ None → first k (faulty_place bytes) ≡ None
    none_faulty none =
        first_none_from k (faulty_place bytes)
        (λ j below. not_faulty j (first_none_at j k (fault_at bytes) below none))

    pub fault_place_at : (fault : TokenFault) → k < length bytes → first k (fault_at bytes) ≡ None →
        fault_at bytes k ≡ Some fault → fault_place bytes ≡ k
    unfolding fault_place
    fault_place_at fault within before here =
        ap (λ found. unwrap_or found (length bytes))
        (first_found k (length bytes) (faulty_place bytes) k within (none_faulty before)
        (is_faulty fault here))

  pub no_fault_place : first (length bytes) (fault_at bytes) ≡ None → fault_place bytes ≡ length bytes
  unfolding fault_place
  no_fault_place none = ap (λ found. unwrap_or found (length bytes)) (none_faulty (length bytes) none)

  faulty_is : (k place : ℕ) → faulty_place bytes k ≡ Some place → place ≡ k
  unfolding faulty_place
  faulty_is k place found = sym (cond_some (is_some (fault_at bytes k)) k place found).1

  -- no fault so far, so the first fault comes later
  pub fault_place_low : (k : ℕ) → k ≤ length bytes → first k (fault_at bytes) ≡ None → k ≤ fault_place bytes
  unfolding fault_place
  fault_place_low k within before =
      unwrapped_low (length bytes) k (first (length bytes) (faulty_place bytes)) within
      (λ place found.
      let at = first_some_at (length bytes) (faulty_place bytes) place found in
      elim (cases_lt at.0 k) [
        | inl early ↦ absurd
            (none-some (at.0) (sym (first_none_at at.0 k (faulty_place bytes) early (none_faulty k before))
            ∙ at.2 ∙ ap (λ (j : ℕ). Some j) (faulty_is at.0 place at.2)))
        | inr later ↦ omega (arith, faulty_is at.0 place at.2)
      ])
