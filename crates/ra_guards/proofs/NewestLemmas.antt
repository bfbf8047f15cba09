-- What the first newer guard is: in a table of the versions, if there is none, and if no write guard is newer.
use Rattle.std.proofs.Common.{inl, inr, ◌≡◌, ◌↔◌, ℕ, ◌<◌, ◌≤◌, Bool, true, false, List, All}
use Rattle.std.proofs.Common.{length, get_or}
use Rattle.std.proofs.Common.{Option, None, sym, ◌∙◌, ⊎_elim, arith}
use Rattle.std.proofs.lemmas.Bool.{or_left, or_cases, ltb-true}
use Rattle.std.proofs.lemmas.List.{get_or_past}
use Rattle.std.proofs.lemmas.List.Elements.{All-from_get_or, Contains-get_or}
use Rattle.ra_base.specs.Searches.{first}
use Rattle.ra_base.specs.Sums.{is_named}
use Rattle.ra_base.specs.declared.ids.Guard.{Guard}
use Rattle.ra_base.specs.declared.ids.Guard.TheVariants as guard
use Rattle.ra_base.proofs.Searches.{first_same, first_none_at, first_none_from, both_none, left_none, right_none}
use Rattle.ra_base.proofs.Named.{is_named_from, is_named_none}
use Rattle.ra_base.proofs.Counts.{count_positive}
use Rattle.ra_model.specs.declared.raw.Tables.{Tables}
use Rattle.ra_model.specs.Numbers.{machine_count, service_count, service_row, dependency_end}
use Rattle.ra_model.specs.Numbers.{dependency_count}
use Rattle.ra_model.specs.Limits.{WellFormed}
use Rattle.ra_model.specs.Relations.{depends, are_joined}
use Rattle.ra_moves.specs.declared.steps.Step.{Step}
use Rattle.ra_moves.specs.Steps.{process_in, from_in, to_in}
use Rattle.ra_topology.proofs.NeedLemmas.{need_within}
use Rattle.ra_moves.specs.Touched.{touches_machine, service_in, moves_service, reads_service, guards_service}
use Rattle.ra_guards.specs.Guards.{AreWithin, writes, reads, is_guard}
use Rattle.ra_guards.specs.Order.{IsKnown, guard_at, AreWrites}
use Rattle.ra_guards.specs.Versions.{version, Untouched}
use Rattle.ra_guards.specs.VersionTable.{VersionTable}
use Rattle.ra_guards.specs.Kept.{HasGuard, version_in, AreZero, IsTableOf, AreVersions, IsTouched}
use Rattle.ra_guards.specs.Newest.{newer_at, first_that, first_newer, first_newer_read, reads_only}
use Rattle.ra_guards.specs.Laws.{NewestIsRight}
use Rattle.ra_guards.proofs.OrderLemmas.{of_machine, of_service, has_known}
use Rattle.ra_guards.proofs.GuardLemmas.{machine_guard, service_guard}
use Rattle.ra_guards.proofs.LowestLemmas.{newer_some, newer_none, guard_read_only, unwritten_guard}

-- two tests that agree at each guard find the same first guard
that_same : (i : Tables) (s t : Guard → Bool) (v w : Guard → ℕ) (q : ℕ) →
    ((g : Guard) → IsKnown i g → newer_at s v q g ≡ newer_at t w q g) → first_that i s v q ≡ first_that i t w q
unfolding first_that IsKnown
that_same i s t v w q same = grind (arith, first_same)

newer_same : (test : Guard → Bool) (v w : Guard → ℕ) (q : ℕ) (g : Guard) → v g ≡ w g →
    newer_at test v q g ≡ newer_at test w q g
unfolding newer_at
newer_same test v w q g same = grind arith

module _ (i : Tables) where
  module _ (made : List (Option (List Step))) (n : ℕ) (steps : List Step) (v : VersionTable) (q : ℕ)
      (versions : AreVersions i made n v) where
    -- a version in a table is a version
    in_table : first_newer i steps (version_in v) q ≡ first_newer i steps (version i made n) q
    unfolding first_newer
    in_table = grind (arith, that_same, newer_same)

    read_in_table : first_newer_read i steps (version_in v) q ≡ first_newer_read i steps (version i made n) q
    unfolding first_newer_read
    read_in_table = grind (arith, that_same, newer_same)

  module _ (steps : List Step) (v : Guard → ℕ) (q : ℕ) where
    -- no write guard is newer
    held_at : (g : Guard) → ((h : Guard) → writes i steps h ≡ true → v h ≤ q) → newer_at (is_guard i steps) v q g ≡
        newer_at (reads_only i steps) v q g
    held_at g held = grind (arith, newer_some, unwritten_guard, newer_none, guard_read_only)

    held_first : ((g : Guard) → writes i steps g ≡ true → v g ≤ q) →
        first_newer i steps v q ≡ first_newer_read i steps v q
    unfolding first_newer first_newer_read
    held_first held = grind (arith, that_same, held_at)

  -- each guard of a move is one of the instance

  -- past the services nothing depends on any
  no_end : (u : ℕ) → service_count i ≤ u → dependency_end i u ≡ 0
  unfolding dependency_end service_row service_count
  no_end u past = grind (arith, get_or_past)

  no_needs : (u s : ℕ) → service_count i ≤ u → depends i u s ≡ false
  unfolding depends dependency_count
  no_needs u s past = grind (arith, no_end, is_named_none)

  joined_known : (s u : ℕ) → WellFormed i → s < service_count i → are_joined i s u ≡ true → u < service_count i
  unfolding are_joined depends
  joined_known s u limits known joined = grind (arith, is_named_from, need_within, no_needs)

  module _ (steps : List Step) where
    step_service : (k : ℕ) → WellFormed i → AreWithin i steps → k < length steps →
        service_in i steps k < service_count i
    unfolding service_in
    step_service k limits within inside = limits.services (process_in steps k) (within.process k inside)

    pub guard_known : (g : Guard) → WellFormed i → AreWithin i steps → is_guard i steps g ≡ true → IsKnown i g
    unfolding IsKnown touches_machine guards_service moves_service reads_service
    guard_known (guard.Machine m) limits within guarded = ⊎_elim
        (λ (named : is_named (length steps) (from_in steps) m.0 ≡ true). let found = is_named_from _
        _ m.0 named in omega (arith, within.from found.0 found.1, found.2))
        (λ (named : is_named (length steps) (to_in steps) m.0 ≡ true). let found = is_named_from _
        _ m.0 named in omega (arith, within.to found.0 found.1, found.2))
        (or_cases (is_named (length steps) (from_in steps) m.0) (is_named (length steps) (to_in steps) m.0)
        (sym (machine_guard i steps m) ∙ guarded))
    guard_known (guard.Service s) limits within guarded =
        elim (or_cases (moves_service i steps s.0) (reads_service i steps s.0)
        (sym (service_guard i steps s) ∙ guarded)) [
          | inl named ↦ let found = is_named_from _ _ s.0
              named in omega (arith, step_service, found.2)
          | inr is_read ↦ let found =
              count_positive _ (λ j. are_joined i (service_in i steps j) s.0) (ltb-true 0 _ is_read) in
              joined_known _ s.0 limits (step_service found.0 limits within found.1) found.2
        ]

    -- so a table of the instance has each write guard
    pub writes_had : (guards : List Guard) (v : VersionTable) → WellFormed i → AreWithin i steps →
        AreWrites i steps guards → IsTableOf i v → All (HasGuard v) guards
    unfolding is_guard guard_at
    writes_had guards v limits within writing sized =
        All-from_get_or (HasGuard v) guards (of_machine 0) (λ k inside.
        let g = get_or guards k (of_machine 0) in
        let written = (writing.exactly (get_or guards k (of_machine 0))).0
        (Contains-get_or guards k (of_machine 0) inside) in
        has_known i v (get_or guards k (of_machine 0)) sized
        (guard_known (get_or guards k (of_machine 0)) limits within
        (or_left (writes i steps (get_or guards k (of_machine 0)))
        (reads i steps (get_or guards k (of_machine 0))) written)))

  pub zero_sized : (v : VersionTable) (m s : ℕ) → m ≡ machine_count i → s ≡ service_count i → AreZero m s v →
      IsTableOf i v
  zero_sized v m s machines services zeros = record {
    machines = zeros.count_machines ∙ machines;
    services = zeros.count_services ∙ services;
  }

  pub touched_sized : (before after : VersionTable) (guards : List Guard) (version : ℕ) → IsTableOf i before →
      IsTouched before after guards version → IsTableOf i after
  touched_sized before after guards version sized touched = record {
    machines = touched.machines ∙ sized.machines;
    services = touched.services ∙ sized.services;
  }

pub ruleset had = (writes_had, zero_sized, touched_sized)

module _ (i : Tables) (test : Guard → Bool) (v : Guard → ℕ) (q : ℕ) where
  -- there is none exactly if no guard has a version above q

  none_at : (g : Guard) → IsKnown i g → first_that i test v q ≡ None → newer_at test v q g ≡ None
  unfolding first_that IsKnown
  none_at (guard.Machine m) known none =
      first_none_at m.0 _ (λ k. newer_at test v q (of_machine k)) known
      (left_none (first (machine_count i) (λ k. newer_at test v q (of_machine k)))
      (first (service_count i) (λ k. newer_at test v q (of_service k))) none)
  none_at (guard.Service s) known none =
      first_none_at s.0 _ (λ k. newer_at test v q (of_service k)) known
      (right_none (first (machine_count i) (λ k. newer_at test v q (of_machine k)))
      (first (service_count i) (λ k. newer_at test v q (of_service k))) none)

  none_from : ((g : Guard) → newer_at test v q g ≡ None) → first_that i test v q ≡ None
  unfolding first_that
  none_from none = grind (arith, both_none, first_none_from)

not_newer : (test : Guard → Bool) (v : Guard → ℕ) (q : ℕ) (g : Guard) → test g ≡ true → newer_at test v q g ≡ None →
    v g ≤ q
not_newer test v q g passes none = grind (arith, newer_some)

none_is_untouched : (i : Tables) (made : List (Option (List Step))) (q n : ℕ) (steps : List Step) → WellFormed i →
    AreWithin i steps → (first_newer i steps (version i made n) q ≡ None) ↔ Untouched i made q n steps
unfolding first_newer
none_is_untouched i made q n steps limits within = (
  λ none. record {
    each = λ g guarded. not_newer _ _ q g guarded
        (none_at i _ _ q g (guard_known i steps g limits within guarded) none);
  },
  λ untouched. none_from i _ _ q
      (λ g. newer_none _ _ q g
      (λ guarded newer. absurd (omega (arith, untouched.each g guarded)))),
)

pub newest_is_right : NewestIsRight
newest_is_right = record {
  in_table = in_table;
  read_in_table = read_in_table;
  none = none_is_untouched;
  held = held_first;
}
