-- Guards of a move, step by step.
use Rattle.std.proofs.Common.{inl, inr, ◌≡◌, ◌≢◌, ◌↔◌, ℕ, ◌+◌, ◌<◌, true, false, List, length, get_or, sym}
use Rattle.std.proofs.Common.{refl, ap}
use Rattle.std.proofs.Common.{◌∙◌, subst, arith, lt-ltb, le-ltb}
use Rattle.std.proofs.lemmas.List.{get_or_read}
use Rattle.std.proofs.Math.Bool.{or-false}
use Rattle.std.proofs.lemmas.Bool.{cases_lt, or_left, or_right, or_cases, or_from, or_parts, both_ways}
use Rattle.ra_base.specs.declared.ids.Guard.{Guard}
use Rattle.ra_base.specs.declared.ids.Guard.TheVariants as guard
use Rattle.ra_base.specs.declared.ids.Machine.{Machine}
use Rattle.ra_base.specs.declared.ids.Service.{Service}
use Rattle.ra_base.proofs.Counts.{count_some, count_zero}
use Rattle.ra_base.specs.Sums.{is_named}
use Rattle.ra_base.proofs.Named.{is_named_at, is_named_not, is_named_more}
use Rattle.ra_model.specs.declared.raw.Tables.{Tables}
use Rattle.ra_model.specs.Numbers.{machine_count, process_count, service_count, service_of, dependency_count, need_of}
use Rattle.ra_model.specs.Limits.{WellFormed}
use Rattle.ra_model.specs.Relations.{are_joined}
use Rattle.ra_moves.specs.declared.steps.Step.{Step}
use Rattle.ra_moves.specs.Steps.{step_at, process_in, from_in, to_in}
use Rattle.ra_moves.specs.Touched.{touches_machine, service_in, moves_service, reads_service, guards_service}
use Rattle.ra_guards.specs.Guards.{AreKnown, AreWithin, writes, reads, is_guard, meets_step}
use Rattle.ra_guards.specs.Versions.{Apart}

-- one more name that isn't m
pub unnamed_more : (k x : ℕ) (e : ℕ → ℕ) (m : ℕ) → is_named k e m ≡ false → e k ≡ x → x ≢ m →
    is_named (k + 1) e m ≡ false
unnamed_more k x e m before is apart = grind (arith, is_named_more, or_from)

-- the machines that a move leaves and enters

-- none of the first n steps leaves or enters machine m
pub record NoEnd (steps : List Step) (m n : ℕ) : Type 0 where
  pub each : (j : ℕ) → j < n → ((step_at steps j).from.0 ≢ m) × ((step_at steps j).to.0 ≢ m)

module _ (steps : List Step) (m : ℕ) where
  pub end_none : NoEnd steps m 0
  end_none = record { each = λ j before. absurd (omega arith) }

  pub end_more : (n : ℕ) (s : Step) → s ≡ step_at steps n → NoEnd steps m n → s.from.0 ≢ m → s.to.0 ≢ m →
      NoEnd steps m (n + 1)
  end_more n s is before from to = record {
    each = λ j within. elim (cases_lt j n) [
      | inl earlier ↦ before.each j earlier
      | inr later ↦ let here : s ≡ step_at steps j = is ∙ ap (step_at steps) (omega arith) in
          (λ same. from (ap (λ (t : Step). t.from.0) here ∙ same), λ same. to (ap (λ (t : Step). t.to.0) here ∙ same))
    ];
  }

  pub end_all : (n : ℕ) → n ≡ length steps → NoEnd steps m n → false ≡ touches_machine steps m
  unfolding touches_machine from_in to_in
  end_all n all none = grind (arith, or_from, is_named_not)

  module _ (j : ℕ) (s : Step) (is : s ≡ step_at steps j) (within : j < length steps) where
    pub end_from : s.from.0 ≡ m → true ≡ touches_machine steps m
    unfolding touches_machine from_in
    end_from from =
        sym (or_left _ _
        (is_named_at (length steps) j _ m within (ap (λ (t : Step). t.from.0) (sym is) ∙ from)))

    pub end_to : s.to.0 ≡ m → true ≡ touches_machine steps m
    unfolding touches_machine to_in
    end_to to =
        sym (or_right _ _
        (is_named_at (length steps) j _ m within (ap (λ (t : Step). t.to.0) (sym is) ∙ to)))

pub ruleset ends = (end_none, end_more, end_all, end_from, end_to)

-- the services that are joined with one that moves

-- none of the first n steps moves a process of a service joined with u
pub record NoneJoined (i : Tables) (steps : List Step) (u n : ℕ) : Type 0 where
  pub each : (j : ℕ) → j < n → are_joined i (service_in i steps j) u ≡ false

-- the steps of another move

-- none of its first n steps writes a guard
pub record NoneMeets (i : Tables) (steps others : List Step) (n : ℕ) : Type 0 where
  pub each : (k : ℕ) → k < n → meets_step i steps (step_at others k) ≡ false

-- what a step that writes no guard keeps apart
record Missed (i : Tables) (steps : List Step) (s : Step) : Type 0 where
  from : touches_machine steps s.from.0 ≡ false
  to : touches_machine steps s.to.0 ≡ false
  service : guards_service i steps (service_of i s.process.0) ≡ false

-- for a loop over the steps that looks at what they name

-- the first n steps are within the instance
pub record WithinBelow (i : Tables) (steps : List Step) (n : ℕ) : Type 0 where
  pub each : (j : ℕ) → j < n → (process_in steps j < process_count i) × (from_in steps j < machine_count i)
      × (to_in steps j < machine_count i)

module _ (i : Tables) (steps : List Step) where
  -- a step's process, and its service, exist
  pub step_known : (j : ℕ) (s : Step) → AreKnown i steps → j < length steps → s ≡ step_at steps j →
      s.process.0 < process_count i
  unfolding process_in
  step_known j s known within is = rw is (known.each j within)

  pub within_known : AreWithin i steps → AreKnown i steps
  within_known within = record { each = within.process }

pub service_known : (i : Tables) (p s : ℕ) → WellFormed i → p < process_count i → s ≡ service_of i p →
    s < service_count i
service_known i p s limits there is = rw is (limits.services p there)

pub ruleset known = (step_known, service_known)

-- dependency k of a service, as it is read
pub need_read : (i : Tables) (s k : ℕ) (needs : List Service) →
    ((j : ℕ) → j < dependency_count i s → (get_or needs j (record { 0 = 0 })).0 ≡ need_of i s j) →
    length needs ≡ dependency_count i s → k < length needs → (x : Service) → x ≡ get_or needs k x → need_of i s k ≡ x.0
need_read i s k needs each long within x read = grind (arith, get_or_read, each)

module _ (i : Tables) (steps : List Step) where
  -- step j moves a process of this service
  pub service_at : (j : ℕ) (s : Step) (u : ℕ) → s ≡ step_at steps j → u ≡ service_of i s.process.0 →
      service_in i steps j ≡ u
  unfolding service_in process_in
  service_at j s u is of = rw (of, is) refl

  module _ (u : ℕ) where
    pub joined_none : NoneJoined i steps u 0
    joined_none = record { each = λ j before. absurd (omega arith) }

    pub joined_more : (n s : ℕ) → service_in i steps n ≡ s → NoneJoined i steps u n → are_joined i s u ≡ false →
        NoneJoined i steps u (n + 1)
    joined_more n s of before apart = record {
      each = λ j within. elim (cases_lt j n) [
        | inl earlier ↦ before.each j earlier
        | inr later ↦ ap (λ t. are_joined i t u) (ap (service_in i steps) (omega arith) ∙ of) ∙ apart
      ];
    }

    pub joined_all : (n : ℕ) → n ≡ length steps → NoneJoined i steps u n → false ≡ reads_service i steps u
    unfolding reads_service
    joined_all n all none = grind (arith, le-ltb, count_zero)

    pub joined_found : (j s : ℕ) → service_in i steps j ≡ s → j < length steps → are_joined i s u ≡ true →
        true ≡ reads_service i steps u
    unfolding reads_service
    joined_found j s of within joined =
        sym (lt-ltb 0 _
        (count_some (length steps) j (λ k. are_joined i (service_in i steps k) u) within
        (ap (λ t. are_joined i t u) of ∙ joined)))

  missed : (s : Step) → meets_step i steps s ≡ false → Missed i steps s
  unfolding meets_step
  missed s none =
      let machines = or_parts _ _ none in
      let two = or_parts _ _ machines.0 in
      record { from = two.0; to = two.1; service = machines.1 }

  pub machine_guard : (m : Machine) → is_guard i steps (guard.Machine m) ≡
      touches_machine steps m.0
  unfolding is_guard writes reads
  machine_guard m = or-false (touches_machine steps m.0)

  pub service_guard : (s : Service) → is_guard i steps (guard.Service s) ≡
      guards_service i steps s.0
  unfolding is_guard writes reads guards_service
  service_guard s = refl

  module _ (others : List Step) where
    pub meets_none : NoneMeets i steps others 0
    meets_none = record { each = λ k before. absurd (omega arith) }

    pub meets_more : (n : ℕ) → NoneMeets i steps others n → meets_step i steps (step_at others n) ≡ false →
        NoneMeets i steps others (n + 1)
    meets_more n before here = record {
      each = λ k within. elim (cases_lt k n) [
        | inl earlier ↦ before.each k earlier
        | inr later ↦ ap (λ j. meets_step i steps (step_at others j)) (omega arith) ∙ here
      ];
    }

    machine_apart : (m : ℕ) → NoneMeets i steps others (length others) → touches_machine steps m ≡ true →
        touches_machine others m ≡ false
    unfolding touches_machine from_in to_in
    machine_apart m none guarded = or_from _ _
        (is_named_not (length others) (from_in others) m
        (λ k within same.
        both_ways (touches_machine steps m) (ap (touches_machine steps) (sym same)
        ∙ (missed _ (none.each k within)).from) guarded))
        (is_named_not (length others) (to_in others) m
        (λ k within same.
        both_ways (touches_machine steps m) (ap (touches_machine steps) (sym same)
        ∙ (missed _ (none.each k within)).to) guarded))

    service_apart : (u : ℕ) → NoneMeets i steps others (length others) → guards_service i steps u ≡ true →
        moves_service i others u ≡ false
    unfolding moves_service service_in process_in
    service_apart u none guarded =
        is_named_not _ _ u
        (λ k within same. both_ways (guards_service i steps u) (ap (guards_service i steps) (sym same)
        ∙ (missed _ (none.each k within)).service) guarded)

    none_written : (g : Guard) → NoneMeets i steps others (length others) → is_guard i steps g ≡ true →
        writes i others g ≡ false
    unfolding writes
    none_written (guard.Machine m) none guarded =
        machine_apart m.0 none (sym (machine_guard m) ∙ guarded)
    none_written (guard.Service s) none guarded =
        service_apart s.0 none (sym (service_guard s) ∙ guarded)

    -- the step writes a guard
    pub meets_written : (k : ℕ) → k < length others → meets_step i steps (step_at others k) ≡ true →
        Apart i steps others → ⊥
    unfolding meets_step writes touches_machine moves_service from_in to_in service_in process_in
    meets_written k within meets apart =
        let s = step_at others k in
        elim (or_cases _ _ meets) [
          | inl machines ↦ elim (or_cases _ _ machines) [
            | inl from ↦ both_ways (touches_machine others s.from.0)
                (apart.each (guard.Machine s.from) (machine_guard s.from ∙ from))
                (or_left _ _ (is_named_at _ k _ s.from.0 within refl))
            | inr to ↦ both_ways (touches_machine others s.to.0)
                (apart.each (guard.Machine s.to) (machine_guard s.to ∙ to))
                (or_right _ _ (is_named_at _ k _ s.to.0 within refl))
          ]
          | inr service ↦ let u : Service = record { 0 = service_of i s.process.0 } in
              both_ways (moves_service i others u.0) (apart.each (guard.Service u) (service_guard u ∙ service))
              (is_named_at _ k _ u.0 within refl)
        ]

    -- so the moves are apart exactly if no step writes a guard
    pub apart_all : (n : ℕ) → n ≡ length others → NoneMeets i steps others n → (true ≡ true) ↔ Apart i steps others
    apart_all n all none =
        (λ same. record { each = λ g guarded. none_written g (rw all at none) guarded }, λ apart. refl)

    pub apart_not : (k : ℕ) → k < length others → meets_step i steps (step_at others k) ≡ true →
        (false ≡ true) ↔ Apart i steps others
    apart_not k within meets = grind (arith, meets_written)

  pub within_none : WithinBelow i steps 0
  within_none = record { each = λ j before. absurd (omega arith) }

  pub within_more : (n : ℕ) (s : Step) → WithinBelow i steps n → s ≡ step_at steps n → s.process.0 < process_count i →
      s.from.0 < machine_count i → s.to.0 < machine_count i → WithinBelow i steps (n + 1)
  unfolding process_in from_in to_in
  within_more n s before is process from to = record {
    each = λ j within. elim (cases_lt j n) [
      | inl earlier ↦ before.each j earlier
      | inr later ↦ subst (λ (t : Step). (t.process.0 < process_count i) × (t.from.0 < machine_count i) ×
          (t.to.0 < machine_count i))
          (is ∙ ap (step_at steps) (omega arith)) (process, from, to)
    ];
  }

  pub within_all : (n : ℕ) → n ≡ length steps → WithinBelow i steps n → AreWithin i steps
  within_all n all below = record {
    process = λ j within. (below.each j (omega arith)).0;
    from = λ j within. (below.each j (omega arith)).1;
    to = λ j within. (below.each j (omega arith)).2;
  }

pub ruleset joins = (joined_none, joined_more, joined_all, joined_found, service_at)

pub ruleset meetings = (meets_none, meets_more, apart_all, apart_not)

pub ruleset knowing = (within_none, within_more, within_all)
