-- What a move doesn't touch stays: sums of which it takes as much as it adds, the use of machines that it neither
-- leaves nor enters, and counts of services that it doesn't move.
use Rattle.std.proofs.Common.{◌≡◌, ◌≢◌, ℕ, ◌+◌, ◌<◌, Bool, false, cond, eqb, ltb, ◌||◌, List, length, sym, ap, ◌∙◌, arith, ne_eqb}
use Rattle.std.proofs.lemmas.Bool.{and_left, and_right, both_ways}
use Rattle.ra_base.specs.Sums.{total, one_if, is_named}
use Rattle.ra_base.specs.declared.ids.Machine.{Machine}
use Rattle.ra_base.proofs.Sums.{total_same}
use Rattle.ra_base.proofs.Counts.{count_same}
use Rattle.ra_base.proofs.Named.{is_named_at}
use Rattle.ra_model.specs.declared.raw.Tables.{Tables}
use Rattle.ra_model.specs.Numbers.{process_count, service_of, requirement_of}
use Rattle.ra_model.specs.Assignments.{machine_at, tally}
use Rattle.ra_model.specs.Usage.{use_of, transient_share, transient_of}
use Rattle.ra_model.specs.Services.{is_of, of_service, members_at, on_machine, in_neighbourhood, in_location, locations_of}
use Rattle.ra_moves.specs.declared.steps.Step.{Step}
use Rattle.ra_moves.specs.Steps.{process_in, from_in, to_in}
use Rattle.ra_moves.specs.Replacing.{Applied, applied}
use Rattle.ra_moves.specs.Values.{gone, come}
use Rattle.ra_moves.proofs.Applying.{applied_at_once}
use Rattle.ra_moves.proofs.ValueLemmas.{tally_after}
use Rattle.ra_model.proofs.TallyLemmas.{use_share_elsewhere}
use Rattle.ra_moves.specs.Touched.{touches_machine, moves_service}
use Rattle.ra_moves.specs.Moving.{IsMove}
use Rattle.ra_moves.proofs.EndLemmas.{end_not_left, end_not_entered, service_not_moved}

module _ (i : Tables) where
  module _ (s : ℕ) (test : ℕ → ℕ → Bool) (p at : ℕ) where
    -- services
    -- a process of another service isn't counted
    pub of_other : service_of i p ≢ s → of_service i s test p at ≡ 0
    unfolding of_service is_of
    of_other apart =
        ap one_if (and_left (eqb (service_of i p) s) _ (ne_eqb (service_of i p) s apart))

    -- nor is one that doesn't pass
    pub of_failed : test p at ≡ false → of_service i s test p at ≡ 0
    unfolding of_service
    of_failed fails = ap one_if (and_right _ _ fails)

  module _ (a : List Machine) (steps : List Step) where
    -- a move, all at once
    pub applied_of : IsMove i a steps → Applied steps a (applied a steps)
    applied_of move = applied_at_once a steps move.distinct move.stands.known

    module _ (f : ℕ → ℕ → ℕ) (move : IsMove i a steps) where
      -- how a sum over the processes changes
      pub tally_applied : tally (process_count i) f (applied a steps) + total (length steps) (gone f steps) ≡ tally
          (process_count i) f a + total (length steps) (come f steps)
      unfolding applied
      tally_applied =
          tally_after _ f a steps _ (omega arith) move.fits.one_each move.stands move.distinct

      -- a sum of which each step takes as much as it adds
      pub tally_stays : ((j : ℕ) → j < length steps → f (process_in steps j) (from_in steps j) ≡ f (process_in steps j)
          (to_in steps j)) → tally (process_count i) f (applied a steps) ≡ tally (process_count i) f a
      unfolding gone come
      tally_stays same =
          omega (arith, tally_applied, total_same _ _ _ same)

    -- machines
    pub use_same : (m r : ℕ) → IsMove i a steps →
        touches_machine steps m ≡ false → use_of i (applied a steps) m r ≡ use_of i a m r
    unfolding use_of
    use_same m r move none =
        tally_stays _ move
        (λ j within. use_share_elsewhere i m r _ _ (end_not_left steps m j none within)
        ∙ sym (use_share_elsewhere i m r _ _ (end_not_entered steps m j none within)))

    module _ (s : ℕ) where
      pub members_same : (test : ℕ → ℕ → Bool) → IsMove i a steps → moves_service i steps s ≡ false →
          members_at i (applied a steps) s test ≡ members_at i a s test
      unfolding members_at
      members_same test move none =
          tally_stays (of_service i s test) move
          (λ j within. of_other s test _ _ (service_not_moved i steps s j none within)
          ∙ sym (of_other s test _ _ (service_not_moved i steps s j none within)))

      pub on_machine_same : (m : ℕ) → IsMove i a steps →
          moves_service i steps s ≡ false → on_machine i (applied a steps) s m ≡ on_machine i a s m
      unfolding on_machine
      on_machine_same m move none = members_same (λ p at. eqb at m) move none

      -- on a machine that is not an end, of any service
      pub on_machine_stays : (m : ℕ) → IsMove i a steps →
          touches_machine steps m ≡ false → on_machine i (applied a steps) s m ≡ on_machine i a s m
      unfolding on_machine members_at
      on_machine_stays m move none = tally_stays (of_service i s (λ p at. eqb at m)) move (λ j within.
          of_failed s (λ p at. eqb at m) _ _
          (ne_eqb _ m (end_not_left steps m j none within))
          ∙ sym (of_failed s (λ p at. eqb at m) _ _
          (ne_eqb _ m (end_not_entered steps m j none within))))

      module _ (label : ℕ) (move : IsMove i a steps) (none : moves_service i steps s ≡ false) where
        pub in_neighbourhood_same : in_neighbourhood i (applied a steps) s label ≡ in_neighbourhood i a s label
        unfolding in_neighbourhood
        in_neighbourhood_same =
            members_same (λ p at. eqb _ label) move none

        pub in_location_same : in_location i (applied a steps) s label ≡ in_location i a s label
        unfolding in_location
        in_location_same = members_same (λ p at. eqb _ label) move none

      pub locations_same : IsMove i a steps →
          moves_service i steps s ≡ false → locations_of i (applied a steps) s ≡ locations_of i a s
      unfolding locations_of
      locations_same move none = count_same _ (λ label. ltb 0 _)
          (λ label. ltb 0 _)
          (λ label within. rw (in_location_same label move none))

      -- so does one of a service that doesn't move
      pub member_stays : (p : ℕ) → IsMove i a steps →
          moves_service i steps s ≡ false → service_of i p ≡ s → machine_at (applied a steps) p ≡ machine_at a p
      member_stays p move none of =
          (applied_of move).stayed p
          (λ j within same. service_not_moved i steps s j none within (ap (service_of i) same ∙ of))

    -- processes
    -- a process that no step names stays
    pub process_stays : (p : ℕ) → IsMove i a steps →
        is_named (length steps) (process_in steps) p ≡ false → machine_at (applied a steps) p ≡ machine_at a p
    process_stays p move none =
        (applied_of move).stayed p
        (λ j within same. both_ways _ none
        (is_named_at _ j _ p within same))

  -- on another machine a process uses of this one in between what it uses of its first machine
  transient_elsewhere : (a0 : List Machine) (m r p at : ℕ) → at ≢ m →
      transient_share i a0 m r p at ≡ cond (eqb (machine_at a0 p) m || false) (requirement_of i p r) 0
  unfolding transient_share
  transient_elsewhere a0 m r p at apart =
      rw (ne_eqb at m apart)

  pub transient_same : (a0 a : List Machine) (steps : List Step) (m r : ℕ) → IsMove i a steps →
      touches_machine steps m ≡ false → transient_of i a0 (applied a steps) m r ≡ transient_of i a0 a m r
  unfolding transient_of
  transient_same a0 a steps m r move none = tally_stays a steps _ move
      (λ j within. transient_elsewhere a0 m r _ _
      (end_not_left steps m j none within)
      ∙ sym (transient_elsewhere a0 m r _ _
      (end_not_entered steps m j none within)))
