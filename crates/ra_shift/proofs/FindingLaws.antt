-- The cause for which a shift is refused. Only the machine that is entered can lack room, and only the service of the
-- process can be twice on a machine or in too few locations.
use Rattle.std.proofs.Common.{◌≡◌, ◌≢◌, ℕ, ◌+◌, ◌<◌, ◌≤◌, Bool, true, List, [], ◌∷◌, Option, Some, None, ltb, ◌&&◌, sym, ap, ◌∙◌, ⊎_elim, arith, eq-eqb}
use Rattle.std.proofs.lemmas.Bool.{cond-true, cases_Bool, lt-ltb, le-ltb, ltb-false, and_left, and_right, and_from}
use Rattle.ra_base.specs.Searches.{or_else, first}
use Rattle.ra_base.specs.declared.causes.Cause.{Cause}
use Rattle.ra_base.specs.declared.causes.Cause.TheVariants.{Same, Capacity, Transient, Conflict, Spread}
use Rattle.ra_base.specs.declared.ids.Machine.{Machine}
use Rattle.ra_base.proofs.Counts.{one_if_true, one_if_false}
use Rattle.ra_base.proofs.Searches.{or_else_none, or_else_some, first_none_from, first_none_at, first_found}
use Rattle.ra_model.specs.Numbers.{resource_count, machine_count, service_count, service_of, transient_at, capacity_of, requirement_of, spread_of}
use Rattle.ra_model.specs.Assignments.{machine_at}
use Rattle.ra_model.specs.Usage.{use_of, transient_of}
use Rattle.ra_model.specs.Services.{on_machine, locations_of}
use Rattle.ra_model.specs.Broken.{cause_if, capacity_test, row_capacity, broken_capacity, transient_test, row_transient, broken_transient, conflict_test, service_conflict, broken_conflict, spread_test, broken_spread, first_broken}
use Rattle.ra_model.specs.Situations.{Situation, broken_at}
use Rattle.ra_model.proofs.BrokenLemmas.{cause_none, cause_free, capacity_unbroken, transient_unbroken, conflict_unbroken, fine_from_feasible}
use Rattle.ra_moves.specs.Steps.{process_in, from_in, to_in, step_at}
use Rattle.ra_moves.specs.Judging.{same_test, same_of, broken_by}
use Rattle.ra_moves.specs.Options.{leaving}
use Rattle.ra_shift.specs.Conditions.{shifted, HasRoom, HasRoomBetween}
use Rattle.ra_shift.proofs.RoomLaws.{IsStart, use_entered, use_other, between_entered, between_other, capacity_after, transient_after}
use Rattle.ra_shift.proofs.MemberLaws.{members_mine, members_other, locations_other, conflict_after}
use Rattle.ra_shift.proofs.AllowLaws.{no_repeat, same_none, applied_one}

cause_here : (failed : Bool) (cause : Cause) → failed ≡ true → cause_if failed cause ≡ Some cause
unfolding cause_if
cause_here failed cause is = cond-true failed (Some cause) None is

-- a search after one that finds nothing, and before one that isn't reached
behind : {X : Type 0} (a b : Option X) → a ≡ None → or_else a b ≡ b
behind a b none = ap (λ x. or_else x b) none ∙ or_else_none b

before : {X : Type 0} (a b : Option X) (x : X) → a ≡ Some x → or_else a b ≡ Some x
before a b x some = ap (λ y. or_else y b) some ∙ or_else_some x b

-- a shift to where the process is
same_some : (a : List Machine) (p to : ℕ) → machine_at a p ≡ to → same_of (leaving a p to ∷ []) ≡
    Some (Same (record { 0 = p }))
unfolding same_of same_test first or_else process_in from_in to_in step_at leaving
same_some a p to same = cause_here _ _ (eq-eqb (machine_at a p) to same)

module _ (st : Situation) (p to : ℕ) where
  pub broken_same : machine_at st.here p ≡ to →
      broken_by st (leaving st.here p to ∷ []) ≡ Some (Same (record { 0 = p }))
  unfolding broken_by
  broken_same same = behind _ _ (no_repeat st.here p to) ∙ before _ _ _ (same_some st.here p to same)

  -- a shift elsewhere
  broken_first : (cause : Cause) → machine_at st.here p ≢ to →
      broken_at (record st { here = shifted st.here p to }) ≡ Some cause → broken_by st (leaving st.here p to ∷ [])
      ≡ Some cause
  unfolding broken_by
  broken_first cause apart found = grind (arith, behind, no_repeat, same_none, applied_one)

  -- too little room
  no_row_before : (m : ℕ) → IsStart st p to → m < to →
      row_capacity st.tables (shifted st.here p to) m ≡ None
  unfolding row_capacity capacity_test
  no_row_before m h below = grind (arith, first_none_from, cause_free, le-ltb, use_other)

  -- too little room in between
  no_between_before : (m : ℕ) → IsStart st p to → m < to →
      row_transient st.tables st.start (shifted st.here p to) m ≡ None
  unfolding row_transient transient_test
  no_between_before m h below = grind (arith, first_none_from, cause_free, and_right, le-ltb, between_other, and_left)

  module _ (r : ℕ) where
    row_over : IsStart st p to → r < resource_count st.tables →
        ((k : ℕ) → k < r → use_of st.tables st.here to k + requirement_of st.tables p k ≤ capacity_of st.tables to k) →
        capacity_of st.tables to r < use_of st.tables st.here to r + requirement_of st.tables p r →
        row_capacity st.tables (shifted st.here p to) to ≡
        Some (Capacity (record { 0 = to }) (record { 0 = r }) (use_of st.tables st.here to r + requirement_of st.tables p r)
        (capacity_of st.tables to r))
    unfolding row_capacity capacity_test
    row_over h within fits above =
        first_found r (resource_count st.tables) (capacity_test st.tables (shifted st.here p to) to) _ within
        (first_none_from _ _
        (λ k below. cause_free _ _ (le-ltb _ _ (omega (arith, use_entered st p to k h, fits k below)))))
        (ap (λ u. cause_if (ltb (capacity_of st.tables to r) u)
        (Capacity (record { 0 = to }) (record { 0 = r }) u (capacity_of st.tables to r)))
        (use_entered st p to r h) ∙ cause_here _ _ (lt-ltb _ _ above))

    pub broken_over : IsStart st p to → r < resource_count st.tables →
        ((k : ℕ) → k < r → use_of st.tables st.here to k + requirement_of st.tables p k ≤ capacity_of st.tables to k) →
        capacity_of st.tables to r < use_of st.tables st.here to r + requirement_of st.tables p r →
        broken_by st (leaving st.here p to ∷ []) ≡
        Some (Capacity (record { 0 = to }) (record { 0 = r }) (use_of st.tables st.here to r + requirement_of st.tables p r)
        (capacity_of st.tables to r))
    unfolding first_broken broken_capacity
    broken_over h within fits above =
        broken_first _ h.apart (before _ _ _
        (first_found to (machine_count st.tables) (row_capacity st.tables (shifted st.here p to)) _ h.reach
        (first_none_from _ _ (λ m below. no_row_before m h below))
        (row_over h within fits above)))

    row_between : IsStart st p to → machine_at st.start p ≢ to →
        r < resource_count st.tables → transient_at st.tables r ≡ true →
        ((k : ℕ) → k < r → transient_at st.tables k ≡ true → transient_of st.tables st.start st.here to k
        + requirement_of st.tables p k ≤ capacity_of st.tables to k) →
        capacity_of st.tables to r < transient_of st.tables st.start st.here to r + requirement_of st.tables p r →
        row_transient st.tables st.start (shifted st.here p to) to ≡ Some (Transient (record { 0 = to }) (record { 0 = r })
        (transient_of st.tables st.start st.here to r + requirement_of st.tables p r) (capacity_of st.tables to r))
    unfolding row_transient transient_test
    row_between h away within transient fits above =
        first_found r (resource_count st.tables) (transient_test st.tables st.start (shifted st.here p to) to) _ within
        (first_none_from _ _ (λ k below. cause_free _ _ (⊎_elim
        (λ twice. and_right _ _
        (le-ltb (capacity_of st.tables to k) (transient_of st.tables st.start (shifted st.here p to) to k)
        (omega (arith, between_entered st p to k h away, fits k below twice))))
        (λ once. and_left _ _ once)
        (cases_Bool (transient_at st.tables k)))))
        (ap (λ u. cause_if (transient_at st.tables r && ltb (capacity_of st.tables to r) u)
        (Transient (record { 0 = to }) (record { 0 = r }) u (capacity_of st.tables to r)))
        (between_entered st p to r h away) ∙ cause_here _ _ (and_from _ _ transient (lt-ltb _ _ above)))

    pub broken_between : IsStart st p to → HasRoom st.tables st.here p to →
        machine_at st.start p ≢ to → r < resource_count st.tables → transient_at st.tables r ≡ true →
        ((k : ℕ) → k < r → transient_at st.tables k ≡ true → transient_of st.tables st.start st.here to k
        + requirement_of st.tables p k ≤ capacity_of st.tables to k) →
        capacity_of st.tables to r < transient_of st.tables st.start st.here to r + requirement_of st.tables p r →
        broken_by st (leaving st.here p to ∷ []) ≡ Some (Transient (record { 0 = to }) (record { 0 = r })
        (transient_of st.tables st.start st.here to r + requirement_of st.tables p r) (capacity_of st.tables to r))
    unfolding first_broken broken_transient
    broken_between h room away within transient fits above =
        broken_first _ h.apart
        (behind _ _ (capacity_unbroken st.tables (shifted st.here p to) (capacity_after st p to h room)) ∙ before _ _ _
        (first_found to (machine_count st.tables) (row_transient st.tables st.start (shifted st.here p to)) _ h.reach
        (first_none_from _ _ (λ m below. no_between_before m h below))
        (row_between h away within transient fits above)))

  -- neither lacks
  no_row : (rest : Option Cause) → IsStart st p to → HasRoom st.tables st.here p to →
      HasRoomBetween st p to →
      or_else (broken_capacity st.tables (shifted st.here p to))
      (or_else (broken_transient st.tables st.start (shifted st.here p to)) rest) ≡ rest
  no_row rest h room between =
      grind (arith, behind, capacity_unbroken, capacity_after, transient_unbroken, transient_after)

  -- twice on the machine
  one_before : (s m : ℕ) → IsStart st p to → s < service_count st.tables →
      m < machine_count st.tables → on_machine st.tables st.here s m ≤ 1
  unfolding broken_conflict service_conflict conflict_test
  one_before s m h s_in m_in =
      ltb-false _ _ (cause_none _ _ (first_none_at m _ _ m_in
      (first_none_at s _ _ s_in (fine_from_feasible st.tables st.start st.here h.feasible).conflict)))

  none_other : (s : ℕ) → IsStart st p to → s < service_count st.tables →
      service_of st.tables p ≢ s → service_conflict st.tables (shifted st.here p to) s ≡ None
  unfolding service_conflict conflict_test on_machine
  none_other s h s_in other = grind (arith, first_none_from, cause_free, le-ltb, members_other, one_before)

  none_before : (m : ℕ) → IsStart st p to → m < to →
      conflict_test st.tables (shifted st.here p to) (service_of st.tables p) m ≡ None
  unfolding conflict_test on_machine
  none_before m h below = grind (arith, cause_free, le-ltb, members_mine, one_if_false, one_before)

  two_here : IsStart st p to →
      0 < on_machine st.tables st.here (service_of st.tables p) to →
      conflict_test st.tables (shifted st.here p to) (service_of st.tables p) to ≡
      Some (Conflict (record { 0 = service_of st.tables p }) (record { 0 = to }))
  unfolding conflict_test on_machine
  two_here h some = grind (arith, cause_here, lt-ltb, members_mine, one_if_true, eq-eqb, one_if_false)

  pub broken_twice : IsStart st p to → HasRoom st.tables st.here p to →
      HasRoomBetween st p to → 0 < on_machine st.tables st.here (service_of st.tables p) to →
      broken_by st (leaving st.here p to ∷ []) ≡
      Some (Conflict (record { 0 = service_of st.tables p }) (record { 0 = to }))
  unfolding first_broken broken_conflict service_conflict
  broken_twice h room between some =
      broken_first _ h.apart
      (no_row _ h room between ∙ before _ _ _
      (first_found (service_of st.tables p) (service_count st.tables) (service_conflict st.tables (shifted st.here p to))
      _
      (h.formed.services p h.known)
      (first_none_from _ _ (λ s below. none_other s h (omega (arith, below, h.formed.services p h.known))
      (λ same. absurd (omega (arith, same, below)))))
      (first_found to (machine_count st.tables) (conflict_test st.tables (shifted st.here p to) (service_of st.tables p))
      _ h.reach
      (first_none_from _ _ (λ m below. none_before m h below)) (two_here h some))))

  -- in too few locations
  pub broken_apart : (has : ℕ) → IsStart st p to → HasRoom st.tables st.here p to →
      HasRoomBetween st p to → on_machine st.tables st.here (service_of st.tables p) to ≡ 0 →
      has ≡ locations_of st.tables (shifted st.here p to) (service_of st.tables p) →
      has < spread_of st.tables (service_of st.tables p) →
      broken_by st (leaving st.here p to ∷ []) ≡
      Some (Spread (record { 0 = service_of st.tables p }) has (spread_of st.tables (service_of st.tables p)))
  unfolding first_broken broken_spread spread_test
  broken_apart has h room between alone is few =
      broken_first _ h.apart
      (no_row _ h room between
      ∙ behind _ _ (conflict_unbroken st.tables (shifted st.here p to) (conflict_after st p to h alone)) ∙ before _ _ _
      (first_found (service_of st.tables p) (service_count st.tables) (spread_test st.tables (shifted st.here p to)) _
      (h.formed.services p h.known)
      (first_none_from _ _ (λ s below. cause_free _ _ (le-ltb _ _ (omega (
        arith,
        locations_other st.tables st.here p to s h.fits h.known (λ same. absurd (omega (arith, same, below))),
        h.feasible.spread s (omega (arith, below, h.formed.services p h.known)),
      )))))
      (ap (λ n. cause_if (ltb n (spread_of st.tables (service_of st.tables p)))
      (Spread (record { 0 = service_of st.tables p }) n (spread_of st.tables (service_of st.tables p)))) (sym is)
      ∙ cause_here _ _ (lt-ltb _ _ few))))
