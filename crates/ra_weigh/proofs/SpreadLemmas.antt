-- A service of which one process moves stays in as many locations if others of it stay where that leaves, or if none are
-- where it comes, and loses at most one in any case.
use Rattle.std.proofs.Common.{inl, inr, ◌≡◌, ◌≢◌, ℕ, ◌+◌, ◌^◌, ◌<◌, ◌≤◌, cond, eqb, ltb, List, length, sym, ap, arith, eq-eqb, ne_eqb, lt-ltb, refl, None}
use Rattle.std.proofs.lemmas.Bool.{cases_eq, cond-true, cond-false}
use Rattle.ra_base.specs.Sums.{one_if}
use Rattle.ra_base.specs.declared.ids.Machine.{Machine}
use Rattle.ra_base.proofs.Sums.{total_le, total_only, total_change, total_change_two}
use Rattle.ra_base.proofs.Counts.{one_if_true, one_if_le}
use Rattle.ra_model.specs.declared.raw.Tables.{Tables}
use Rattle.ra_model.specs.Numbers.{service_count, service_of, location_of, spread_of}
use Rattle.ra_model.specs.Limits.{Small}
use Rattle.ra_model.specs.Services.{is_of, of_service, members_at, in_location, locations_of}
use Rattle.ra_model.specs.Broken.{spread_test}
use Rattle.ra_model.proofs.BrokenLemmas.{Fine, spread_met}
use Rattle.ra_moves.specs.declared.steps.Step.{Step}
use Rattle.ra_moves.specs.Steps.{from_in, to_in}
use Rattle.ra_moves.specs.Touched.{service_in}
use Rattle.ra_moves.specs.Values.{gone, come}
use Rattle.ra_moves.specs.Replacing.{applied}
use Rattle.ra_moves.specs.Moving.{IsMove}
use Rattle.ra_moves.proofs.StayLemmas.{tally_applied, of_other}
use Rattle.ra_weigh.specs.Flowing.{MoveAlone}
use Rattle.ra_weigh.specs.Marks.{location_holds}
use Rattle.ra_weigh.proofs.LocationLemmas.{locations_are, held_few, one_grows}
use Rattle.ra_weigh.proofs.TestLemmas.{spread_enough}

module _ (i : Tables) (steps : List Step) (j s : ℕ) where
  -- no other step so far
  pub alone_none : MoveAlone i steps j s 0
  alone_none = record { others = λ k below. absurd (omega arith) }

  pub alone_more : (n : ℕ) → MoveAlone i steps j s n → (n ≢ j → service_in i steps n ≢ s) →
      MoveAlone i steps j s (n + 1)
  alone_more n before here = grind arith

-- the process counts where it is
counted_at : (i : Tables) {s : ℕ} (label p at : ℕ) → service_of i p ≡ s →
    of_service i s (λ q m. eqb (location_of i m) label) p at ≡ one_if (eqb (location_of i at) label)
unfolding of_service is_of
counted_at i {s} label p at is = grind (arith, eq-eqb)

one_same : (x y : ℕ) → x ≡ y → one_if (eqb x y) ≡ 1
one_same x y same = one_if_true _ (eq-eqb x y same)

one_apart : (x y : ℕ) → x ≢ y → one_if (eqb x y) ≡ 0
one_apart x y apart = ap one_if (ne_eqb x y apart)

module _ (i : Tables) where
  -- so it has no fewer than it wants
  enough_stay : (a0 a b : List Machine) (s : ℕ) → Fine i a0 a → s < service_count i →
      locations_of i a s ≤ locations_of i b s → spread_test i b s ≡ None
  enough_stay a0 a b s fine s_in more = grind (arith, spread_enough, spread_met)

  module _ {a : List Machine} {steps : List Step} {j s : ℕ} where
    -- one more where it comes, and one less where it leaves
    location_moves : (label : ℕ) → IsMove i a steps → j < length steps → service_in i steps j ≡ s →
        MoveAlone i steps j s (length steps) →
        in_location i (applied a steps) s label + one_if (eqb (location_of i (from_in steps j)) label) ≡
        in_location i a s label + one_if (eqb (location_of i (to_in steps j)) label)
    unfolding in_location members_at gone come service_in
    location_moves label move within is alone =
        let f = of_service i s (λ q m. eqb (location_of i m) label) in
        omega (
          arith,
          tally_applied i a steps f move,
          total_only (length steps) j (gone f steps) within
              (λ k below apart. of_other i s _ _ _ (alone.others k below apart)),
          total_only (length steps) j (come f steps) within
              (λ k below apart. of_other i s _ _ _ (alone.others k below apart)),
          counted_at i label _ (from_in steps j) is,
          counted_at i label _ (to_in steps j) is,
        )

    module _ (move : IsMove i a steps) (within : j < length steps) (is : service_in i steps j ≡ s)
        (alone : MoveAlone i steps j s (length steps)) where
      -- others stay where it leaves
      stays_by_others : 1 < in_location i a s (location_of i (from_in steps j)) →
          locations_of i a s ≤ locations_of i (applied a steps) s
      unfolding location_holds
      stays_by_others others =
          let left = location_of i (from_in steps j) in
          omega (
            arith,
            locations_are i a s,
            locations_are i (applied a steps) s,
            total_le (2 ^ 32) (location_holds i a s) (location_holds i (applied a steps) s)
                (λ label below. elim (cases_eq label left) [
                  | inl here ↦ omega (
                    arith,
                    one_if_le (ltb 0 (in_location i a s label)),
                    one_if_true (ltb 0 (in_location i (applied a steps) s label)) (lt-ltb 0 _
                        (omega (
                          arith,
                          location_moves label move within is alone,
                          one_if_le (eqb left label),
                          ap (in_location i a s) here,
                          others,
                        ))),
                  )
                  | inr there ↦ one_grows _ _
                      (omega (
                        arith,
                        location_moves label move within is alone,
                        one_apart left label (λ same. there (sym same)),
                      ))
                ]),
          )

      -- it comes where it was
      stays_there : location_of i (from_in steps j) ≡ location_of i (to_in steps j) →
          locations_of i a s ≤ locations_of i (applied a steps) s
      unfolding location_holds
      stays_there same = grind (arith, locations_are, total_le, one_grows, location_moves)

    module _ (small : Small i) (move : IsMove i a steps) (within : j < length steps) (is : service_in i steps j ≡ s)
        (alone : MoveAlone i steps j s (length steps)) where
      -- none are where it comes
      stays_by_coming : location_of i (from_in steps j) ≢ location_of i (to_in steps j) →
          in_location i a s (location_of i (to_in steps j)) ≡ 0 →
          locations_of i a s ≤ locations_of i (applied a steps) s
      unfolding location_holds
      stays_by_coming apart none =
          let left = location_of i (from_in steps j) in
          let come = location_of i (to_in steps j) in
          omega (
            arith,
            locations_are i a s,
            locations_are i (applied a steps) s,
            total_change_two (2 ^ 32) left come (location_holds i a s) (location_holds i (applied a steps) s)
                (small.locations (from_in steps j)) (small.locations (to_in steps j)) apart
                (λ label below not_left not_come. ap (λ n. one_if (ltb 0 n))
                (omega (
                  arith,
                  location_moves label move within is alone,
                  one_apart left label (λ same. not_left (sym same)),
                  one_apart come label (λ same. not_come (sym same)),
                ))),
            held_few i a s left,
            ap (λ n. one_if (ltb 0 n)) none,
            one_if_true (ltb 0 (in_location i (applied a steps) s come)) (lt-ltb 0 _
                (omega (
                  arith,
                  location_moves come move within is alone,
                  one_apart left come apart,
                  one_same come come refl,
                  none,
                ))),
          )

      -- it loses at most the location that the process leaves
      loses_one : locations_of i a s ≤ locations_of i (applied a steps) s + 1
      unfolding location_holds
      loses_one =
          let left = location_of i (from_in steps j) in
          let f = location_holds i a s in
          let h = λ (label : ℕ). cond (eqb label left) 0 (f label) in
          let h_left : h left ≡ 0 = cond-true (eqb left left) 0 (f left) (eq-eqb left left refl) in
          let h_other =
          λ (label : ℕ) (d : label ≢ left). cond-false (eqb label left) 0 (f label) (ne_eqb label left d) in
          omega (
            arith,
            locations_are i a s,
            locations_are i (applied a steps) s,
            total_change (2 ^ 32) left f h (small.locations (from_in steps j)) (λ label below d. sym (h_other label d)),
            h_left,
            held_few i a s left,
            total_le (2 ^ 32) h (location_holds i (applied a steps) s) (λ label below. elim (cases_eq label left) [
              | inl here ↦ omega (arith, cond-true (eqb label left) 0 (f label) (eq-eqb label left here))
              | inr there ↦ omega (
                arith,
                h_other label there,
                one_grows (in_location i a s label) (in_location i (applied a steps) s label)
                    (omega (
                      arith,
                      location_moves label move within is alone,
                      one_apart left label (λ same. there (sym same)),
                    )),
              )
            ]),
          )

    -- each way, with the counts as they are read
    pub spread_to_spare : (wants before : ℕ) → Small i → IsMove i a steps → j < length steps →
        service_in i steps j ≡ s → MoveAlone i steps j s (length steps) → wants ≡ spread_of i s →
        before ≡ locations_of i a s → wants < before → spread_test i (applied a steps) s ≡ None
    spread_to_spare wants before small move within is alone wants_is before_is more =
        grind (arith, spread_enough, loses_one)

  module _ (a0 : List Machine) where
    module _ {a : List Machine} {steps : List Step} {j s : ℕ} (left : ℕ) where
      pub spread_there : (come : ℕ) → IsMove i a steps → Fine i a0 a → s < service_count i → j < length steps →
          service_in i steps j ≡ s → MoveAlone i steps j s (length steps) → left ≡ location_of i (from_in steps j) →
          come ≡ location_of i (to_in steps j) → left ≡ come → spread_test i (applied a steps) s ≡ None
      spread_there come move fine s_in within is alone left_is come_is same = grind (arith, enough_stay, stays_there)

      pub spread_by_others : (count : ℕ) → IsMove i a steps → Fine i a0 a → s < service_count i → j < length steps →
          service_in i steps j ≡ s → MoveAlone i steps j s (length steps) → left ≡ location_of i (from_in steps j) →
          count ≡ in_location i a s left → 1 < count → spread_test i (applied a steps) s ≡ None
      spread_by_others count move fine s_in within is alone left_is count_is some =
          grind (arith, enough_stay, stays_by_others)

      pub spread_by_coming : (come count : ℕ) → Small i → IsMove i a steps → Fine i a0 a → s < service_count i →
          j < length steps → service_in i steps j ≡ s → MoveAlone i steps j s (length steps) →
          left ≡ location_of i (from_in steps j) → come ≡ location_of i (to_in steps j) → left ≢ come →
          count ≡ in_location i a s come → count ≡ 0 → spread_test i (applied a steps) s ≡ None
      spread_by_coming come count small move fine s_in within is alone left_is come_is apart count_is none =
          grind (arith, enough_stay, stays_by_coming)
