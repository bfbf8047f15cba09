-- No constraint is named as broken exactly if the assignment is feasible, constraint by constraint.
use Rattle.std.proofs.Common.{◌≡◌, ◌≢◌, ℕ, zero, suc, ◌<◌, ◌≤◌, Bool, true, false, cond, not, eqb, ltb, ◌&&◌, List}
use Rattle.std.proofs.Common.{Option, Some, None, IfSome, IsTrue, sym, refl, ◌∙◌, ⊎_elim, arith}
use Rattle.std.proofs.lemmas.Bool.{cases_eq, cases_Bool, cond-true, cond-false, both_ways, ltb-false, le-ltb, eqb-true}
use Rattle.std.proofs.lemmas.Bool.{eqb-false, eq-eqb, ne_eqb, and_parts, and_from, and_left, and_right, and_cases}
use Rattle.std.proofs.lemmas.Bool.{not-false, not_from_true}
use Rattle.ra_base.specs.Sums.{count}
use Rattle.ra_base.specs.Searches.{or_else, first}
use Rattle.ra_base.specs.declared.ids.Machine.{Machine}
use Rattle.ra_base.specs.declared.causes.Cause.{Cause}
use Rattle.ra_base.proofs.Counts.{count_two, count_at_most_one, count_some, count_positive}
use Rattle.ra_base.proofs.Searches.{first_none_at, first_none_from, left_none, right_none, both_none}
use Rattle.ra_model.specs.declared.raw.Tables.{Tables}
use Rattle.ra_model.specs.Numbers.{resource_count, machine_count, service_count, process_count, transient_at}
use Rattle.ra_model.specs.Numbers.{capacity_of, spread_of, dependency_count, need_of, service_of, neighbourhood_of}
use Rattle.ra_model.specs.Numbers.{closed_at}
use Rattle.ra_model.specs.Limits.{WellFormed}
use Rattle.ra_model.specs.Assignments.{IsAssignment, machine_at}
use Rattle.ra_model.specs.Usage.{use_of, transient_of}
use Rattle.ra_model.specs.Services.{is_of, on_machine, in_neighbourhood, locations_of}
use Rattle.ra_model.proofs.TallyLemmas.{members_count}
use Rattle.ra_model.specs.Feasible.{Feasible, HasNear}
use Rattle.ra_model.specs.Causes.{IsConstraint}
use Rattle.ra_model.specs.Laws.{BrokenNamesConstraints}
use Rattle.ra_model.specs.Broken.{cause_if, capacity_test, row_capacity, broken_capacity, transient_test, row_transient}
use Rattle.ra_model.specs.Broken.{broken_transient, conflict_test, service_conflict, broken_conflict, spread_test}
use Rattle.ra_model.specs.Broken.{broken_spread, near_of, far_test, dependency_test, pair_dependency}
use Rattle.ra_model.specs.Broken.{service_dependency, broken_dependency, closed_test, broken_closed, first_broken}

-- a test names no cause exactly if it is false

pub cause_none : (failed : Bool) (cause : Cause) → cause_if failed cause ≡ None → failed ≡ false
unfolding cause_if
cause_none true cause none = cc
cause_none false cause none = refl

pub failed_if : {failed : Bool} (cause : Cause) → failed ≡ true → Some cause ≡ cause_if failed cause
unfolding cause_if
failed_if {failed} cause is = sym (cond-true failed (Some cause) None is)

pub held_if : {failed : Bool} (cause : Cause) → failed ≡ false → None ≡ cause_if failed cause
unfolding cause_if
held_if {failed} cause is = sym (cond-false failed (Some cause) None is)

pub cause_free : (failed : Bool) (cause : Cause) → failed ≡ false → cause_if failed cause ≡ None
unfolding cause_if
cause_free failed cause holds = cond-false failed (Some cause) None holds

-- all six together

-- none of the six searches finds anything
pub record Fine (i : Tables) (a0 a : List Machine) : Type 0 where
  pub capacity : broken_capacity i a ≡ None
  pub transient : broken_transient i a0 a ≡ None
  pub conflict : broken_conflict i a ≡ None
  pub spread : broken_spread i a ≡ None
  pub dependency : broken_dependency i a ≡ None
  pub closed : broken_closed i a0 a ≡ None

module _ (i : Tables) where
  module _ (a : List Machine) where
    -- capacity

    pub capacity_met : broken_capacity i a ≡ None → (m r : ℕ) → m < machine_count i →
        r < resource_count i → use_of i a m r ≤ capacity_of i m r
    unfolding broken_capacity row_capacity capacity_test
    capacity_met none m r m_in r_in =
        ltb-false _ _ (cause_none _ _ (first_none_at r _ _ r_in (first_none_at m _ _ m_in none)))

    pub capacity_unbroken : ((m r : ℕ) → m < machine_count i → r < resource_count i →
        use_of i a m r ≤ capacity_of i m r) → broken_capacity i a ≡ None
    unfolding broken_capacity row_capacity capacity_test
    capacity_unbroken met =
        first_none_from _ _ (λ m m_in. first_none_from _ _ (λ r r_in. cause_free _ _ (le-ltb _ _ (met m r m_in r_in))))

    -- conflict

    pub on_machine_count : (s m : ℕ) →
        on_machine i a s m ≡ count (process_count i) (λ p. is_of i s p && eqb (machine_at a p) m)
    unfolding on_machine
    on_machine_count s m = members_count i a s (λ p at. eqb at m)

    pub conflict_met : WellFormed i → IsAssignment i a → broken_conflict i a ≡ None → (p q : ℕ) → p < process_count i →
        q < process_count i → p ≢ q → service_of i p ≡ service_of i q → machine_at a p ≢ machine_at a q
    unfolding broken_conflict service_conflict conflict_test is_of
    conflict_met limits fits none p q p_in q_in apart one_service one_machine =
        let s = service_of i p in
        let m = machine_at a p in
        let few = ltb-false 1 (on_machine i a s m)
        (cause_none _ _
        (first_none_at m _ (conflict_test i a s) (fits.in_range p p_in)
        (first_none_at s _ (service_conflict i a) (limits.services p p_in) none))) in
        let two = count_two (process_count i) p q (λ k. is_of i s k && eqb (machine_at a k) m) p_in q_in apart
        (and_from _ _ (eq-eqb s s refl) (eq-eqb m m refl))
        (and_from _ _ (eq-eqb (service_of i q) s (sym one_service)) (eq-eqb (machine_at a q) m (sym one_machine))) in
        omega (arith, few, two, on_machine_count s m)

    pub conflict_unbroken : ((p q : ℕ) → p < process_count i → q < process_count i → p ≢ q →
        service_of i p ≡ service_of i q → machine_at a p ≢ machine_at a q) → broken_conflict i a ≡ None
    unfolding broken_conflict service_conflict conflict_test is_of
    conflict_unbroken met =
        first_none_from _ _
        (λ s s_in. first_none_from _ _ (λ m m_in. cause_free _ _ (le-ltb 1 (on_machine i a s m) (alone s m))))
      where
        alone : (s m : ℕ) → on_machine i a s m ≤ 1
        alone s m = rw (on_machine_count s m)
            (count_at_most_one (process_count i) (λ p. is_of i s p && eqb (machine_at a p) m)
            (λ p q p_in q_in p_there q_there. ⊎_elim
            (λ (same : p ≡ q). same)
            (λ (apart : p ≢ q).
            let p_is = and_parts _ _ p_there in
            let q_is = and_parts _ _ q_there in
            absurd (met p q p_in q_in apart (eqb-true _ _ p_is.0 ∙ sym (eqb-true _ _ q_is.0))
            (eqb-true _ _ p_is.1 ∙ sym (eqb-true _ _ q_is.1))))
            (cases_eq p q)))

    -- spread

    pub spread_met : broken_spread i a ≡ None → (s : ℕ) → s < service_count i → spread_of i s ≤ locations_of i a s
    unfolding broken_spread spread_test
    spread_met none s s_in = ltb-false _ _ (cause_none _ _ (first_none_at s _ _ s_in none))

    pub spread_unbroken : ((s : ℕ) → s < service_count i → spread_of i s ≤ locations_of i a s) →
        broken_spread i a ≡ None
    unfolding broken_spread spread_test
    spread_unbroken met = first_none_from _ _ (λ s s_in. cause_free _ _ (le-ltb _ _ (met s s_in)))

    module _ (s label : ℕ) where
      -- dependency

      pub neighbourhood_count : in_neighbourhood i a s label ≡ count (process_count i)
          (λ q. is_of i s q && eqb (neighbourhood_of i (machine_at a q)) label)
      unfolding in_neighbourhood
      neighbourhood_count = members_count i a s (λ q at. eqb (neighbourhood_of i at) label)

      -- a process of service s is near exactly if the count of those near is above zero

      pub near_from_count : 0 < in_neighbourhood i a s label → HasNear i a s label
      unfolding is_of
      near_from_count some =
          let found = count_positive (process_count i) (λ q. is_of i s q && eqb (neighbourhood_of i (machine_at a q))
          label)
          (rw (neighbourhood_count) at some) in
          let both = and_parts _ _ found.2 in
          (found.0, found.1, eqb-true _ _ both.0, eqb-true _ _ both.1)

      pub count_from_near : HasNear i a s label → 0 < in_neighbourhood i a s label
      unfolding is_of
      count_from_near near =
          rw (neighbourhood_count)
          (count_some (process_count i) near.0 (λ q. is_of i s q && eqb (neighbourhood_of i (machine_at a q)) label)
          near.1
          (and_from _ _ (eq-eqb _ _ near.2) (eq-eqb _ _ near.3)))

    pub dependency_met : broken_dependency i a ≡ None → (s k p : ℕ) → s < service_count i → k < dependency_count i s →
        p < process_count i → service_of i p ≡ s → HasNear i a (need_of i s k) (neighbourhood_of i (machine_at a p))
    unfolding broken_dependency service_dependency pair_dependency dependency_test far_test near_of is_of
    dependency_met none s k p s_in k_in p_in one_service =
        let tested =
        first_none_at p _ (dependency_test i a s k) p_in
        (first_none_at k _ (pair_dependency i a s) k_in (first_none_at s _ (service_dependency i a) s_in none)) in
        let far : far_test i a s k p ≡ None =
        sym (cond-true (is_of i s p) (far_test i a s k p) None (eq-eqb _ _ one_service)) ∙ tested in
        let label = neighbourhood_of i (machine_at a p) in
        let some = eqb-false (in_neighbourhood i a (need_of i s k) label) 0 (cause_none _ _ far) in
        near_from_count (need_of i s k) label (omega arith)

    pub dependency_unbroken : ((s k p : ℕ) → s < service_count i → k < dependency_count i s → p < process_count i →
        service_of i p ≡ s → HasNear i a (need_of i s k) (neighbourhood_of i (machine_at a p))) →
        broken_dependency i a ≡ None
    unfolding broken_dependency service_dependency pair_dependency dependency_test far_test near_of is_of
    dependency_unbroken met =
        first_none_from _ _ (λ s s_in. first_none_from _ _ (λ k k_in. first_none_from _ _ (λ p p_in. ⊎_elim
        (λ (member : is_of i s p ≡ true). cond-true _ _ _ member
        ∙ cause_free _ _
        (ne_eqb _ 0 (λ none.
        absurd (omega (
          arith,
          none,
          count_from_near (need_of i s k) (neighbourhood_of i (machine_at a p))
              (met s k p s_in k_in p_in (eqb-true _ _ member)),
        )))))
        (λ (other : is_of i s p ≡ false). cond-false _ _ _ other)
        (cases_Bool (is_of i s p)))))

  module _ (a0 a : List Machine) where
    -- transient use

    pub transient_met : broken_transient i a0 a ≡ None → (m r : ℕ) → m < machine_count i → r < resource_count i →
        IsTrue (transient_at i r) → transient_of i a0 a m r ≤ capacity_of i m r
    unfolding broken_transient row_transient transient_test
    transient_met none m r m_in r_in twice = ⊎_elim
        (λ (once : transient_at i r ≡ false). absurd (both_ways (transient_at i r) once twice))
        (λ (within : ltb (capacity_of i m r) (transient_of i a0 a m r) ≡ false). ltb-false _ _ within)
        (and_cases _ _ (cause_none _ _ (first_none_at r _ _ r_in (first_none_at m _ _ m_in none))))

    pub transient_unbroken : ((m r : ℕ) → m < machine_count i → r < resource_count i → IsTrue (transient_at i r) →
        transient_of i a0 a m r ≤ capacity_of i m r) → broken_transient i a0 a ≡ None
    unfolding broken_transient row_transient transient_test
    transient_unbroken met = first_none_from _ _ (λ m m_in. first_none_from _ _ (λ r r_in. cause_free _ _ (⊎_elim
        (λ (twice : transient_at i r ≡ true). and_right _ _ (le-ltb _ _ (met m r m_in r_in twice)))
        (λ (once : transient_at i r ≡ false). and_left _ _ once)
        (cases_Bool (transient_at i r)))))

    -- closed machines

    pub closed_met : broken_closed i a0 a ≡ None → (p : ℕ) → p < process_count i →
        IsTrue (closed_at i (machine_at a p)) → machine_at a0 p ≡ machine_at a p
    unfolding broken_closed closed_test
    closed_met none p p_in shut = ⊎_elim
        (λ (free : closed_at i (machine_at a p) ≡ false). absurd (both_ways _ free shut))
        (λ (stays : not (eqb (machine_at a0 p) (machine_at a p)) ≡ false). eqb-true _ _ (not-false _ stays))
        (and_cases _ _ (cause_none _ _ (first_none_at p _ _ p_in none)))

    pub closed_unbroken : ((p : ℕ) → p < process_count i → IsTrue (closed_at i (machine_at a p)) →
        machine_at a0 p ≡ machine_at a p) → broken_closed i a0 a ≡ None
    unfolding broken_closed closed_test
    closed_unbroken met = first_none_from _ _ (λ p p_in. cause_free _ _ (⊎_elim
        (λ (shut : closed_at i (machine_at a p) ≡ true). and_right _ _ (not_from_true _ (eq-eqb _ _ (met p p_in shut))))
        (λ (free : closed_at i (machine_at a p) ≡ false). and_left _ _ free)
        (cases_Bool (closed_at i (machine_at a p)))))

    pub fine_from_unbroken : first_broken i a0 a ≡ None → Fine i a0 a
    unfolding first_broken
    fine_from_unbroken none =
        let after_capacity = right_none _ _ none in
        let after_transient = right_none _ _ after_capacity in
        let after_conflict = right_none _ _ after_transient in
        let after_spread = right_none _ _ after_conflict in
        record {
          capacity = left_none _ _ none;
          transient = left_none _ _ after_capacity;
          conflict = left_none _ _ after_transient;
          spread = left_none _ _ after_conflict;
          dependency = left_none _ _ after_spread;
          closed = right_none _ _ after_spread;
        }

    pub unbroken_from_fine : Fine i a0 a → first_broken i a0 a ≡ None
    unfolding first_broken
    unbroken_from_fine fine =
        both_none _ _ fine.capacity
        (both_none _ _ fine.transient
        (both_none _ _ fine.conflict (both_none _ _ fine.spread (both_none _ _ fine.dependency fine.closed))))

    pub feasible_from_fine : WellFormed i → IsAssignment i a → Fine i a0 a → Feasible i a0 a
    feasible_from_fine limits fits fine = record {
      capacity = capacity_met a fine.capacity;
      transient = transient_met fine.transient;
      conflict = conflict_met a limits fits fine.conflict;
      spread = spread_met a fine.spread;
      dependency = dependency_met a fine.dependency;
      closed = closed_met fine.closed;
    }

    pub fine_from_feasible : Feasible i a0 a → Fine i a0 a
    fine_from_feasible feasible = record {
      capacity = capacity_unbroken a feasible.capacity;
      transient = transient_unbroken feasible.transient;
      conflict = conflict_unbroken a feasible.conflict;
      spread = spread_unbroken a feasible.spread;
      dependency = dependency_unbroken a feasible.dependency;
      closed = closed_unbroken feasible.closed;
    }

    pub feasible_from_unbroken : WellFormed i → IsAssignment i a → first_broken i a0 a ≡ None → Feasible i a0 a
    feasible_from_unbroken limits fits none = feasible_from_fine limits fits (fine_from_unbroken none)

    pub unbroken_from_feasible : Feasible i a0 a → first_broken i a0 a ≡ None
    unbroken_from_feasible feasible = unbroken_from_fine (fine_from_feasible feasible)

-- what is found is a constraint

if_or_else : {X : Type 0} (P : X → Type 0) (a b : Option X) → IfSome a P → IfSome b P → IfSome (or_else a b) P
unfolding or_else
if_or_else P None b here there = there
if_or_else P (Some x) b here there = here

if_first : {X : Type 0} (P : X → Type 0) (n : ℕ) (f : ℕ → Option X) → ((k : ℕ) → IfSome (f k) P) → IfSome (first n f) P
unfolding first
if_first P zero f each = tt
if_first P (suc n) f each = if_or_else P (first n f) (f n) (if_first P n f each) (each n)

if_cause : (P : Cause → Type 0) (failed : Bool) (cause : Cause) → P cause → IfSome (cause_if failed cause) P
unfolding cause_if
if_cause P true cause holds = holds
if_cause P false cause holds = tt

pub broken_is_constraint : BrokenNamesConstraints
unfolding first_broken broken_capacity row_capacity capacity_test broken_transient row_transient transient_test
    broken_conflict service_conflict conflict_test broken_spread spread_test broken_dependency service_dependency
    pair_dependency dependency_test far_test broken_closed closed_test
broken_is_constraint i a0 a =
    if_or_else IsConstraint _ _
    (if_first IsConstraint _ _ (λ m. if_first IsConstraint _ _ (λ r. if_cause IsConstraint _ _ tt)))
    (if_or_else IsConstraint _ _
    (if_first IsConstraint _ _ (λ m. if_first IsConstraint _ _ (λ r. if_cause IsConstraint _ _ tt)))
    (if_or_else IsConstraint _ _
    (if_first IsConstraint _ _ (λ s. if_first IsConstraint _ _ (λ m. if_cause IsConstraint _ _ tt)))
    (if_or_else IsConstraint _ _ (if_first IsConstraint _ _ (λ s. if_cause IsConstraint _ _ tt))
    (if_or_else IsConstraint _ _
    (if_first IsConstraint _ _
    (λ s. if_first IsConstraint _ _ (λ k. if_first IsConstraint _ _ (λ p. far_or_none i a s k p))))
    (if_first IsConstraint _ _ (λ p. if_cause IsConstraint _ _ tt))))))
  where
    far_or_none : (i : Tables) (a : List Machine) (s k p : ℕ) → IfSome (dependency_test i a s k p) IsConstraint
    far_or_none i a s k p = elim (is_of i s p) as (λ v. IfSome (cond v (far_test i a s k p) None) IsConstraint)
        [ true ↦ if_cause IsConstraint _ _ tt | false ↦ tt ]
