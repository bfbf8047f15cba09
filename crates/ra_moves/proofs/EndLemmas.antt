-- The machines and services that a move touches, step by step.
use Rattle.std.proofs.Common.{◌≡◌, ◌≢◌, ℕ, ◌+◌, ◌-◌, ◌<◌, ◌≤◌, true, false, List, length, sym, refl, ap, ◌∙◌, ⊎_elim, arith, lt-ltb}
use Rattle.std.proofs.lemmas.Bool.{cases_Bool, cases_lt, or_left, or_right, or_cases, or_parts, both_ways, false_from_ne_true}
use Rattle.ra_base.specs.Sums.{is_named}
use Rattle.ra_base.proofs.Counts.{count_some}
use Rattle.ra_base.proofs.Named.{is_named_at, is_named_from, is_named_not}
use Rattle.ra_model.specs.declared.raw.Tables.{Tables}
use Rattle.ra_model.specs.Numbers.{service_of, dependency_count, need_of}
use Rattle.ra_model.specs.Relations.{depends, are_joined}
use Rattle.ra_moves.specs.declared.steps.Step.{Step}
use Rattle.ra_moves.specs.Steps.{process_in, from_in, to_in}
use Rattle.ra_moves.specs.Values.{end_count, end_in}
use Rattle.ra_moves.proofs.ValueLemmas.{end_from, end_to}
use Rattle.ra_moves.specs.Touched.{touches_machine, service_in, moves_service, reads_service, guards_service}

module _ (steps : List Step) where
  -- a step's own machines
  pub end_left : (j : ℕ) → j < length steps → touches_machine steps (from_in steps j) ≡ true
  unfolding touches_machine
  end_left j within = or_left _ _ (is_named_at _ j _ _ within refl)

  pub end_entered : (j : ℕ) → j < length steps → touches_machine steps (to_in steps j) ≡ true
  unfolding touches_machine
  end_entered j within = or_right _ _ (is_named_at _ j _ _ within refl)

  -- the end of each number is one
  pub end_at : (j : ℕ) → j < end_count steps → touches_machine steps (end_in steps j) ≡ true
  unfolding end_count
  end_at j within = ⊎_elim
      (λ first. ap (touches_machine steps) (end_from steps j first) ∙ end_left j first)
      (λ second.
      ap (touches_machine steps) (ap (end_in steps) (split j second) ∙ end_to steps (j - length steps))
      ∙ end_entered (j - length steps) (omega arith))
      (cases_lt j (length steps))
    where
      split : (j : ℕ) → length steps ≤ j → j ≡ length steps + (j - length steps)
      split j above = omega arith

  module _ (m : ℕ) where
    module _ (j : ℕ) (none : touches_machine steps m ≡ false) (within : j < length steps) where
      -- machines
      -- a machine that no step leaves or enters
      pub end_not_left : from_in steps j ≢ m
      unfolding touches_machine
      end_not_left same =
          both_ways (is_named (length steps) (from_in steps) m)
          (or_parts (is_named (length steps) (from_in steps) m) (is_named (length steps) (to_in steps) m) none).0
          (is_named_at (length steps) j (from_in steps) m within same)

      pub end_not_entered : to_in steps j ≢ m
      unfolding touches_machine
      end_not_entered same =
          both_ways (is_named (length steps) (to_in steps) m)
          (or_parts (is_named (length steps) (from_in steps) m) (is_named (length steps) (to_in steps) m) none).1
          (is_named_at (length steps) j (to_in steps) m within same)

    -- a machine that is an end is named by the ends' numbers
    end_named : touches_machine steps m ≡ true → is_named (end_count steps) (end_in steps) m ≡ true
    unfolding touches_machine end_count
    end_named ends = ⊎_elim
        (λ left.
        let found = is_named_from _ _ m left in
        is_named_at (length steps + length steps) found.0 (end_in steps) m (omega (arith, found.1))
        (end_from steps found.0 found.1 ∙ found.2))
        (λ entered.
        let found = is_named_from _ _ m entered in
        is_named_at (length steps + length steps) (length steps + found.0) (end_in steps) m (omega (arith, found.1))
        (end_to steps found.0 ∙ found.2))
        (or_cases (is_named (length steps) (from_in steps) m) (is_named (length steps) (to_in steps) m) ends)

    pub ends_are_named : touches_machine steps m ≡ is_named (end_count steps) (end_in steps) m
    ends_are_named = ⊎_elim
        (λ ends. ends ∙ sym (end_named ends))
        (λ none. none
        ∙ sym (is_named_not _ _ m
        (λ j within same.
        both_ways _ none (ap (touches_machine steps) (sym same) ∙ end_at j within))))
        (cases_Bool _)

-- dependency k of a service joins the two
pub need_joined : (i : Tables) (s k : ℕ) → k < dependency_count i s → (are_joined i s (need_of i s k) ≡ true)
    × (are_joined i (need_of i s k) s ≡ true)
unfolding are_joined depends
need_joined i s k within =
    let named = is_named_at _ k _ _ within refl in
    (or_left _ _ named, or_right _ _ named)

module _ (i : Tables) (steps : List Step) where
  -- and so is one that is joined with it
  pub joined_guarded : (s u : ℕ) → moves_service i steps s ≡ true →
      are_joined i s u ≡ true → guards_service i steps u ≡ true
  unfolding guards_service moves_service reads_service
  joined_guarded s u moved joined =
      let found = is_named_from _ _ s moved in
      or_right _ _
      (lt-ltb 0 _ (count_some _ found.0 (λ j. are_joined i _ u) found.1
      (ap (λ t. are_joined i t u) found.2 ∙ joined)))

  module _ (s : ℕ) where
    -- services
    -- a service of which no process moves
    pub service_not_moved : (j : ℕ) → moves_service i steps s ≡ false →
        j < length steps → service_of i (process_in steps j) ≢ s
    unfolding moves_service service_in
    service_not_moved j none within same = both_ways _ none
        (is_named_at _ j _ s within same)

    -- a service that moves is guarded
    pub moved_guarded : moves_service i steps s ≡ true → guards_service i steps s ≡ true
    unfolding guards_service
    moved_guarded moved = or_left _ _ moved

    module _ (k : ℕ) where
      -- if one of two services moves, the other one is guarded too
      pub need_guarded : k < dependency_count i s →
          moves_service i steps s ≡ true → guards_service i steps (need_of i s k) ≡ true
      need_guarded within moved = joined_guarded s _ moved (need_joined i s k within).0

      pub needing_guarded : k < dependency_count i s →
          moves_service i steps (need_of i s k) ≡ true → guards_service i steps s ≡ true
      needing_guarded within moved = joined_guarded _ s moved (need_joined i s k within).1

      pub unguarded_needs : k < dependency_count i s →
          guards_service i steps s ≡ false → moves_service i steps (need_of i s k) ≡ false
      unguarded_needs within none = false_from_ne_true _
          (λ moved. both_ways _ none (needing_guarded within moved))

    -- a service that isn't guarded doesn't move, nor does one that it depends on
    pub unguarded_stays : guards_service i steps s ≡ false → moves_service i steps s ≡ false
    unguarded_stays none =
        false_from_ne_true (moves_service i steps s)
        (λ moved. both_ways (guards_service i steps s) none (moved_guarded moved))

  -- a step's own service
  pub service_moved : (j : ℕ) → j < length steps → moves_service i steps (service_in i steps j) ≡ true
  unfolding moves_service
  service_moved j within = is_named_at (length steps) j (service_in i steps) (service_in i steps j) within refl
