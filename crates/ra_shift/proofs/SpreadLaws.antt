-- In how many locations a service is once one of its processes goes to another machine.
use Rattle.std.proofs.Common.{◌≡◌, ◌≢◌, ℕ, ◌+◌, ◌^◌, ◌<◌, ◌≤◌, List, eqb, ltb, refl, ap, sym, arith, eq-eqb, ne_eqb}
use Rattle.std.proofs.lemmas.Bool.{lt-ltb, le-ltb}
use Rattle.ra_base.specs.Sums.{one_if}
use Rattle.ra_base.specs.declared.ids.Machine.{Machine}
use Rattle.ra_base.proofs.Counts.{one_if_true, one_if_false, one_if_le, count_same, count_some, count_change_two}
use Rattle.ra_model.specs.declared.raw.Tables.{Tables}
use Rattle.ra_model.specs.Numbers.{process_count, service_of, spread_of, location_of}
use Rattle.ra_model.specs.Limits.{Small}
use Rattle.ra_model.specs.Assignments.{IsAssignment, machine_at}
use Rattle.ra_model.specs.Services.{in_location, locations_of}
use Rattle.ra_shift.specs.Conditions.{shifted}
use Rattle.ra_shift.specs.Sharing.{locations_without}
use Rattle.ra_shift.proofs.MemberLaws.{location_mine, location_some}

-- a label counts if it is held
pub label_counts : (n : ℕ) → 0 < n → one_if (ltb 0 n) ≡ 1
label_counts n some = one_if_true _ (lt-ltb 0 n some)

label_idle : (n : ℕ) → n ≡ 0 → one_if (ltb 0 n) ≡ 0
label_idle n none = one_if_false _ (le-ltb 0 n (omega arith))

-- how one label's count changes if one is taken away and if one comes
taken_away : (before after : ℕ) → after + 1 ≡ before → one_if (ltb 0 after) + one_if (eqb before 1) ≡
    one_if (ltb 0 before)
taken_away before after less = grind (arith, one_if_true, eq-eqb, label_idle, label_counts, one_if_false)

brought : (before after : ℕ) → after ≡ before + 1 → one_if (ltb 0 after) ≡ one_if (ltb 0 before) + one_if (eqb before 0)
brought before after more = grind (arith, one_if_true, eq-eqb, label_idle, label_counts, one_if_false)

module _ (i : Tables) (a : List Machine) (p : ℕ) where
  -- the location of p is one of them
  pub some_location : Small i → p < process_count i →
      one_if (eqb (in_location i a (service_of i p) (location_of i (machine_at a p))) 1) ≤
      locations_of i a (service_of i p)
  unfolding locations_of
  some_location small within =
      let some = count_some (2 ^ 32) (location_of i (machine_at a p))
      (λ label. ltb 0 (in_location i a (service_of i p) label)) (small.locations (machine_at a p))
      (lt-ltb 0 _ (location_some i a p within)) in
      omega (arith, some, one_if_le (eqb (in_location i a (service_of i p) (location_of i (machine_at a p))) 1))

  module _ (to : ℕ) where
    -- p stays in its location
    within_location : IsAssignment i a → p < process_count i →
        location_of i (machine_at a p) ≡ location_of i to → locations_of i (shifted a p to) (service_of i p) ≡
        locations_of i a (service_of i p)
    unfolding locations_of
    within_location fits within same = grind (arith, count_same, location_mine)

    -- p goes to another
    to_another : Small i → IsAssignment i a → p < process_count i →
        location_of i (machine_at a p) ≢ location_of i to → locations_of i (shifted a p to) (service_of i p)
        + one_if (eqb (in_location i a (service_of i p) (location_of i (machine_at a p))) 1) ≡
        locations_of i a (service_of i p) + one_if (eqb (in_location i a (service_of i p) (location_of i to)) 0)
    unfolding locations_of
    to_another small fits within apart =
        let s = service_of i p in
        let from_label = location_of i (machine_at a p) in
        let to_label = location_of i to in
        let changed =
        count_change_two (2 ^ 32) from_label to_label (λ label. ltb 0 (in_location i (shifted a p to) s label))
        (λ label. ltb 0 (in_location i a s label)) (small.locations (machine_at a p)) (small.locations to) apart
        (λ label h not_from not_to.
        ap (ltb 0) (omega (
          arith,
          location_mine i a p to label fits within,
          one_if_false (eqb from_label label) (ne_eqb _ _ (λ e. not_from (sym e))),
          one_if_false (eqb to_label label) (ne_eqb _ _ (λ e. not_to (sym e))),
        ))) in
        let at_from = location_mine i a p to from_label fits within in
        let at_to = location_mine i a p to to_label fits within in
        let left = taken_away (in_location i a s from_label) (in_location i (shifted a p to) s from_label)
        (omega (
          arith,
          at_from,
          one_if_true (eqb from_label from_label) (eq-eqb _ _ refl),
          one_if_false (eqb to_label from_label) (ne_eqb _ _ (λ e. apart (sym e))),
        )) in
        let come = brought (in_location i a s to_label) (in_location i (shifted a p to) s to_label)
        (omega (
          arith,
          at_to,
          one_if_false (eqb from_label to_label) (ne_eqb _ _ apart),
          one_if_true (eqb to_label to_label) (eq-eqb _ _ refl),
        )) in
        omega (arith, changed, left, come)

    -- the locations with p on `to`: those of the other processes, and that of `to` if none of them is there
    pub spread_is : Small i → IsAssignment i a → p < process_count i →
        locations_of i (shifted a p to) (service_of i p) ≡ locations_without i a p
        + one_if (eqb (in_location i a (service_of i p) (location_of i to))
        (one_if (eqb (location_of i (machine_at a p)) (location_of i to))))
    unfolding locations_without
    spread_is small fits within =
        grind (arith, within_location, one_if_true, eq-eqb, some_location, to_another, one_if_false)

    -- more locations than are wanted are left, whatever the machine
    pub keeps_anyway : (least : ℕ) → Small i → IsAssignment i a →
        p < process_count i → least ≡ spread_of i (service_of i p) → least < locations_of i a (service_of i p) →
        spread_of i (service_of i p) ≤ locations_of i (shifted a p to) (service_of i p)
    unfolding locations_without
    keeps_anyway least small fits within least_is more = grind (arith, spread_is, one_if_le)

    -- or with the location of the machine
    pub keeps_with : (s without home label own held comes : ℕ) → Small i →
        IsAssignment i a → p < process_count i → s ≡ service_of i p → without ≡ locations_without i a p →
        home ≡ location_of i (machine_at a p) → label ≡ location_of i to → own ≡ one_if (eqb home label) →
        held ≡ in_location i a s label → comes ≡ one_if (eqb held own) →
        without + comes ≡ locations_of i (shifted a p to) (service_of i p)
    keeps_with s without home label own held comes small fits within s_is without_is home_is label_is own_is
        held_is comes_is = grind (arith, spread_is)
