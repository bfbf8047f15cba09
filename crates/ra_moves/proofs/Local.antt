-- A move of an assignment that breaks nothing breaks only what it touches, constraint by constraint.
use Rattle.std.proofs.Common.{◌≡◌, ℕ, ◌<◌, false, eqb, List, None, length, sym, ap, ◌∙◌, ⊎_elim}
use Rattle.std.proofs.lemmas.Bool.{cases_Bool, cond-false, eqb-true}
use Rattle.ra_base.specs.Sums.{is_named}
use Rattle.ra_base.specs.declared.ids.Machine.{Machine}
use Rattle.ra_base.specs.declared.causes.Cause.TheVariants.{Dependency}
use Rattle.ra_base.proofs.Searches.{first_same, first_none_at, first_none_from}
use Rattle.ra_model.specs.declared.raw.Tables.{Tables}
use Rattle.ra_model.specs.Numbers.{machine_count, service_count, process_count, dependency_count, need_of, service_of, neighbourhood_of}
use Rattle.ra_model.specs.Assignments.{machine_at}
use Rattle.ra_model.specs.Usage.{use_of, transient_of}
use Rattle.ra_model.specs.Services.{is_of, on_machine, in_neighbourhood, locations_of}
use Rattle.ra_model.specs.Broken.{cause_if, capacity_test, row_capacity, broken_capacity, transient_test, row_transient, broken_transient, conflict_test, service_conflict, broken_conflict, spread_test, broken_spread, near_of, far_test, dependency_test, pair_dependency, service_dependency, broken_dependency, closed_test, broken_closed}
use Rattle.ra_model.proofs.BrokenLemmas.{Fine, fine_from_unbroken}
use Rattle.ra_moves.specs.declared.steps.Step.{Step}
use Rattle.ra_moves.specs.Steps.{process_in}
use Rattle.ra_moves.specs.Replacing.{applied}
use Rattle.ra_moves.specs.Touched.{touches_machine, moves_service, guards_service}
use Rattle.ra_moves.specs.Moving.{IsMove}
use Rattle.ra_moves.specs.Laws.{OnlyWhere, AreLocal, FailuresAreLocal}
use Rattle.ra_moves.proofs.EndLemmas.{unguarded_stays, unguarded_needs}
use Rattle.ra_moves.proofs.StayLemmas.{use_same, transient_same, on_machine_same, on_machine_stays, locations_same, in_neighbourhood_same, process_stays, member_stays}

module _ (i : Tables) where
  -- what is told of equal values is equal
  pub capacity_told : (a b : List Machine) (m r : ℕ) → use_of i a m r ≡ use_of i b m r →
      capacity_test i a m r ≡ capacity_test i b m r
  unfolding capacity_test
  capacity_told a b m r same =
      rw same

  pub transient_told : (a0 a b : List Machine) (m r : ℕ) →
      transient_of i a0 a m r ≡ transient_of i a0 b m r → transient_test i a0 a m r ≡ transient_test i a0 b m r
  unfolding transient_test
  transient_told a0 a b m r same =
      rw same

  module _ (a b : List Machine) (s : ℕ) where
    pub conflict_told : (m : ℕ) → on_machine i a s m ≡ on_machine i b s m →
        conflict_test i a s m ≡ conflict_test i b s m
    unfolding conflict_test
    conflict_told m same = rw same

    pub spread_told : locations_of i a s ≡ locations_of i b s → spread_test i a s ≡ spread_test i b s
    unfolding spread_test
    spread_told same = rw same

    module _ (k p : ℕ) where
      -- the test gives as much for one machine with as many processes near it
      pub far_told : machine_at a p ≡ machine_at b p →
          ((label : ℕ) → in_neighbourhood i a (need_of i s k) label ≡ in_neighbourhood i b (need_of i s k) label) →
          far_test i a s k p ≡ far_test i b s k p
      unfolding far_test near_of
      far_told same near =
          ap (λ m. cause_if (eqb (in_neighbourhood i a (need_of i s k) (neighbourhood_of i m)) 0)
          (Dependency (record { 0 = s }) (record { 0 = need_of i s k }) (neighbourhood_of i m))) same
          ∙ ap (λ n. cause_if (eqb n 0)
          (Dependency (record { 0 = s }) (record { 0 = need_of i s k }) (neighbourhood_of i (machine_at b p))))
          (near (neighbourhood_of i _))

      pub dependency_told : (service_of i p ≡ s → machine_at a p ≡ machine_at b p) →
          ((label : ℕ) → in_neighbourhood i a (need_of i s k) label ≡ in_neighbourhood i b (need_of i s k) label) →
          dependency_test i a s k p ≡ dependency_test i b s k p
      unfolding dependency_test is_of
      dependency_told same near = ⊎_elim
          (λ member. rw (far_told (same (eqb-true _ _ member)) near))
          (λ other. cond-false (eqb (service_of i p) s) _ None other
          ∙ sym (cond-false (eqb (service_of i p) s) _ None other))
          (cases_Bool (eqb (service_of i p) s))

    pub pair_told : (k : ℕ) → ((p : ℕ) → service_of i p ≡ s → machine_at a p ≡ machine_at b p) →
        ((label : ℕ) → in_neighbourhood i a (need_of i s k) label ≡ in_neighbourhood i b (need_of i s k) label) →
        pair_dependency i a s k ≡ pair_dependency i b s k
    unfolding pair_dependency
    pair_told k same near = first_same (process_count i) (dependency_test i a s k) (dependency_test i b s k)
        (λ p within. dependency_told k p (same p) near)

  pub closed_told : (a0 a b : List Machine) (p : ℕ) → machine_at a p ≡ machine_at b p →
      closed_test i a0 a p ≡ closed_test i a0 b p
  unfolding closed_test
  closed_told a0 a b p same =
      rw same

  module _ (a0 a : List Machine) (steps : List Step) where
    pub conflict_at_ends : (s : ℕ) → IsMove i a steps → Fine i a0 a →
        s < service_count i → OnlyWhere (machine_count i) (touches_machine steps) (conflict_test i (applied a steps) s)
    unfolding broken_conflict service_conflict
    conflict_at_ends s move fine known = record {
      others = λ m within none.
          conflict_told _ a s m (on_machine_stays i a steps s m move none)
          ∙ first_none_at m _ _ within
          (first_none_at s _ _ known fine.conflict);
    }

    pub pair_local : (s k : ℕ) → IsMove i a steps → Fine i a0 a →
        s < service_count i → k < dependency_count i s → moves_service i steps s ≡ false →
        moves_service i steps (need_of i s k) ≡ false → pair_dependency i (applied a steps) s k ≡ None
    unfolding broken_dependency service_dependency
    pair_local s k move fine known within none no_need =
        pair_told _ a s k (λ p of. member_stays i a steps s p move none of)
        (λ label. in_neighbourhood_same i a steps _ label move no_need)
        ∙ first_none_at k _ _ within
        (first_none_at s _ _ known fine.dependency)

    module _ (move : IsMove i a steps) (fine : Fine i a0 a) where
      -- each kind of failure
      pub capacity_local : OnlyWhere (machine_count i) (touches_machine steps) (row_capacity i (applied a steps))
      unfolding broken_capacity row_capacity
      capacity_local = record {
        others = λ m within none.
            first_same _ _ _
            (λ r h. capacity_told _ a m r (use_same i a steps m r move none))
            ∙ first_none_at m _ _ within fine.capacity;
      }

      pub transient_local : OnlyWhere (machine_count i) (touches_machine steps) (row_transient i a0 (applied a steps))
      unfolding broken_transient row_transient
      transient_local = record {
        others = λ m within none.
            first_same _ _ _
            (λ r h. transient_told a0 _ a m r (transient_same i a0 a steps m r move none))
            ∙ first_none_at m _ _ within fine.transient;
      }

      pub conflict_local : OnlyWhere (service_count i) (moves_service i steps) (service_conflict i (applied a steps))
      unfolding broken_conflict service_conflict
      conflict_local = record {
        others = λ s within none.
            first_same _ _ _
            (λ m h. conflict_told _ a s m (on_machine_same i a steps s m move none))
            ∙ first_none_at s _ _ within fine.conflict;
      }

      pub spread_local : OnlyWhere (service_count i) (moves_service i steps) (spread_test i (applied a steps))
      unfolding broken_spread
      spread_local = record {
        others = λ s within none. spread_told _ a s (locations_same i a steps s move none)
            ∙ first_none_at s _ _ within fine.spread;
      }

      pub dependency_local : OnlyWhere (service_count i) (guards_service i steps) (service_dependency i
          (applied a steps))
      unfolding service_dependency
      dependency_local = record {
        others = λ s within none. first_none_from _ _
            (λ k h. pair_local s k move fine within h (unguarded_stays i steps s none)
            (unguarded_needs i steps s k h none));
      }

      pub closed_local : OnlyWhere (process_count i) (is_named (length steps) (process_in steps)) (closed_test i a0
          (applied a steps))
      unfolding broken_closed
      closed_local = record {
        others = λ p within none. closed_told a0 _ a p (process_stays i a steps p move none)
            ∙ first_none_at p _ _ within fine.closed;
      }

      -- the failures of machines and of conflicts, if the ends are named by their numbers
      -- all together
      pub local_from_fine : AreLocal i a0 (applied a steps) steps
      local_from_fine = record {
        capacity = capacity_local;
        transient = transient_local;
        conflict = conflict_local;
        conflict_at = λ s known. conflict_at_ends s move fine known;
        spread = spread_local;
        dependency = dependency_local;
        pair = λ s k known within none no_need. pair_local s k move fine known within none no_need;
        closed = closed_local;
      }

pub failures_are_local : FailuresAreLocal
failures_are_local i a0 a steps limits move none = local_from_fine i a0 a steps move (fine_from_unbroken i a0 a none)
