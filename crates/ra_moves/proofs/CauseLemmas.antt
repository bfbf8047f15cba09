-- A move of two assignments that break nothing and are alike for it breaks the same in both.
use Rattle.std.proofs.Common.{◌≡◌, ℕ, ◌<◌, true, List, sym, ap₂, ◌∙◌, ⊎_elim}
use Rattle.std.proofs.lemmas.Bool.{cases_Bool}
use Rattle.ra_base.specs.Searches.{or_else}
use Rattle.ra_base.specs.declared.ids.Machine.{Machine}
use Rattle.ra_base.proofs.Searches.{first_same}
use Rattle.ra_model.specs.declared.raw.Tables.{Tables}
use Rattle.ra_model.specs.Numbers.{service_count, dependency_count, need_of}
use Rattle.ra_model.specs.Broken.{row_capacity, broken_capacity, row_transient, broken_transient, service_conflict, broken_conflict, broken_spread, pair_dependency, service_dependency, broken_dependency, broken_closed, first_broken}
use Rattle.ra_model.proofs.BrokenLemmas.{Fine}
use Rattle.ra_moves.specs.declared.steps.Step.{Step}
use Rattle.ra_moves.specs.Replacing.{applied}
use Rattle.ra_moves.specs.Touched.{touches_machine, moves_service, guards_service}
use Rattle.ra_moves.specs.Moving.{IsMove}
use Rattle.ra_moves.specs.Alike.{SameOn, SameOf, HeldAlike}
use Rattle.ra_moves.proofs.SearchLemmas.{first_agrees}
use Rattle.ra_moves.proofs.EndLemmas.{moved_guarded, need_guarded, needing_guarded}
use Rattle.ra_moves.proofs.Local.{capacity_told, transient_told, conflict_told, spread_told, pair_told, closed_told, capacity_local, transient_local, conflict_local, spread_local, pair_local, closed_local}
use Rattle.ra_moves.proofs.AlikeLemmas.{named_same, same_on_after, same_of_after, use_alike, transient_alike, on_machine_alike, in_neighbourhood_alike, locations_alike}

-- one list of steps moves two assignments that break nothing and are alike for them
pub record BothMove (i : Tables) (a0 a b : List Machine) (steps : List Step) : Type 0 where
  pub one : IsMove i a steps
  pub other : IsMove i b steps
  pub one_fine : Fine i a0 a
  pub other_fine : Fine i a0 b
  pub alike : HeldAlike i steps a b

module _ (i : Tables) (a0 a b : List Machine) (steps : List Step) where
  -- after it they are still alike on its machines, and for the services that it guards
  pub machine_after : (m : ℕ) → BothMove i a0 a b steps →
      touches_machine steps m ≡ true → SameOn (applied a steps) (applied b steps) m
  machine_after m both ends = same_on_after i a b steps m both.one both.other (both.alike.machines m ends)

  pub service_after : (s : ℕ) → BothMove i a0 a b steps →
      guards_service i steps s ≡ true → SameOf i (applied a steps) (applied b steps) s
  service_after s both guarded =
      same_of_after i a b steps s both.one both.other (both.alike.services s guarded)

  module _ (s k : ℕ) (both : BothMove i a0 a b steps) where
    -- two services that are both guarded
    pair_guarded : guards_service i steps s ≡ true → guards_service i steps (need_of i s k) ≡ true →
        pair_dependency i (applied a steps) s k ≡ pair_dependency i (applied b steps) s k
    pair_guarded guarded needed = pair_told i (applied a steps) (applied b steps) s k
        (λ p of. (service_after s both guarded).each p of)
        (λ label. in_neighbourhood_alike i (applied a steps) (applied b steps) (need_of i s k) label
        (service_after (need_of i s k) both needed))

    -- if one of two services moves, both are guarded, and if none moves, nothing breaks
    pub pair_same : s < service_count i → k < dependency_count i s → pair_dependency i (applied a steps) s k ≡
        pair_dependency i (applied b steps) s k
    pair_same known within = ⊎_elim
        (λ moved. pair_guarded (moved_guarded i steps s moved)
        (need_guarded i steps s k within moved))
        (λ none. ⊎_elim
        (λ needed. pair_guarded
        (needing_guarded i steps s k within needed) (moved_guarded i steps (need_of i s k) needed))
        (λ no_need. pair_local i a0 a steps s k both.one both.one_fine
        known within none no_need
        ∙ sym (pair_local i a0 b steps s k both.other both.other_fine known within none no_need))
        (cases_Bool (moves_service i steps (need_of i s k))))
        (cases_Bool (moves_service i steps s))

  module _ (both : BothMove i a0 a b steps) where
    -- each kind of failure
    pub capacity_same : broken_capacity i (applied a steps) ≡ broken_capacity i (applied b steps)
    unfolding broken_capacity row_capacity
    capacity_same =
        first_agrees _ _ _
        _
        (capacity_local i a0 a steps both.one both.one_fine)
        (capacity_local i a0 b steps both.other both.other_fine)
        (λ m within ends. first_same _ _
        _
        (λ r h. capacity_told i _ _ m r
        (use_alike i _ _ m r (machine_after m both ends))))

    pub transient_causes_same : broken_transient i a0 (applied a steps) ≡ broken_transient i a0 (applied b steps)
    unfolding broken_transient row_transient
    transient_causes_same =
        first_agrees _ _ _
        _
        (transient_local i a0 a steps both.one both.one_fine)
        (transient_local i a0 b steps both.other both.other_fine)
        (λ m within ends. first_same _ _
        _
        (λ r h. transient_told i a0 _ _ m r
        (transient_alike i a0 _ _ m r
        (machine_after m both ends))))

    pub conflict_same : broken_conflict i (applied a steps) ≡ broken_conflict i (applied b steps)
    unfolding broken_conflict service_conflict
    conflict_same = first_agrees _ _
        _ _
        (conflict_local i a0 a steps both.one both.one_fine)
        (conflict_local i a0 b steps both.other both.other_fine)
        (λ s within moved. first_same _ _
        _
        (λ m h. conflict_told i _ _ s m
        (on_machine_alike i _ _ s m
        (service_after s both (moved_guarded i steps s moved)))))

    pub spread_same : broken_spread i (applied a steps) ≡ broken_spread i (applied b steps)
    unfolding broken_spread
    spread_same = first_agrees _ _
        _ _
        (spread_local i a0 a steps both.one both.one_fine)
        (spread_local i a0 b steps both.other both.other_fine)
        (λ s within moved. spread_told i _ _ s
        (locations_alike i _ _ s
        (service_after s both (moved_guarded i steps s moved))))

    pub dependency_same : broken_dependency i (applied a steps) ≡ broken_dependency i (applied b steps)
    unfolding broken_dependency service_dependency
    dependency_same = first_same _ _
        _
        (λ s known. first_same _ _
        _ (λ k within. pair_same s k both known within))

    pub closed_same : broken_closed i a0 (applied a steps) ≡ broken_closed i a0 (applied b steps)
    unfolding broken_closed
    closed_same = first_agrees _ _
        _ _
        (closed_local i a0 a steps both.one both.one_fine)
        (closed_local i a0 b steps both.other both.other_fine)
        (λ p within named. closed_told i a0 _ _ p
        (named_same i a b steps p both.one both.other named))

    -- all together
    pub broken_same : first_broken i a0 (applied a steps) ≡ first_broken i a0 (applied b steps)
    unfolding first_broken
    broken_same =
        ap₂ or_else (capacity_same)
        (ap₂ or_else (transient_causes_same)
        (ap₂ or_else (conflict_same)
        (ap₂ or_else (spread_same)
        (ap₂ or_else (dependency_same)
        (closed_same)))))
