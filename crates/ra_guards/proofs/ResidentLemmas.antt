-- Guards that aren't written keep their residents, and what could be weighed can be weighed later.
use Rattle.std.proofs.Common.{inl, inr, ◌≡◌, ◌≢◌, ℕ, zero, suc, ◌≤◌, false, eqb, List, length, Option, Some}
use Rattle.std.proofs.Common.{None, sym}
use Rattle.std.proofs.Common.{refl, ap, subst, ◌∙◌, arith, ne_eqb}
use Rattle.std.proofs.lemmas.Bool.{cases_lt, cases_Bool, or_left, or_parts, both_ways}
use Rattle.ra_base.specs.Sums.{is_named}
use Rattle.ra_base.specs.declared.ids.Guard.TheVariants as guard
use Rattle.ra_base.specs.declared.ids.Machine.{Machine}
use Rattle.ra_base.specs.declared.ids.Service.{Service}
use Rattle.ra_base.proofs.Named.{is_named_at, is_named_from}
use Rattle.ra_model.specs.declared.raw.Tables.{Tables}
use Rattle.ra_model.specs.Numbers.{service_of}
use Rattle.ra_model.specs.Assignments.{machine_at, IsAssignment}
use Rattle.ra_moves.specs.declared.steps.Step.{Step}
use Rattle.ra_moves.specs.Steps.{process_in, from_in, to_in}
use Rattle.ra_moves.specs.Replacing.{Applied, applied}
use Rattle.ra_moves.proofs.Applying.{applied_at_once}
use Rattle.ra_moves.specs.Touched.{touches_machine, service_in, moves_service, guards_service}
use Rattle.ra_moves.specs.Moving.{IsMove, IsOffered}
use Rattle.ra_moves.specs.Alike.{SameOn, SameOf, HeldAlike}
use Rattle.ra_moves.proofs.Determined.{weighing_is_determined}
use Rattle.ra_guards.specs.Guards.{writes}
use Rattle.ra_guards.specs.Versions.{Apart, ApartSince}
use Rattle.ra_guards.specs.Made.{after_made, made_state, StandsHere, MadeStand}
use Rattle.ra_guards.specs.Laws.{GuardsKeepResidents, UntouchedIsRight}
use Rattle.ra_guards.proofs.GuardLemmas.{machine_guard, service_guard}
use Rattle.ra_guards.proofs.TouchLemmas.{apart_from_untouched}

module _ (i : Tables) (steps : List Step) (a : List Machine) where
  -- an assignment is like itself, and what is like a second is like a third

  alike_self : HeldAlike i steps a a
  alike_self = record {
    machines = λ m guarded. record { each = λ p. refl };
    services = λ s guarded. record { each = λ p of. refl };
  }

  alike_then : (b c : List Machine) → HeldAlike i steps a b → HeldAlike i steps b c → HeldAlike i steps a c
  alike_then b c one other = record {
    machines = λ m guarded. record { each = λ p. (one.machines m guarded).each p ∙ (other.machines m guarded).each p };
    services = λ s guarded. record {
      each = λ p of. (one.services s guarded).each p of ∙ (other.services s guarded).each p of;
    };
  }

-- a move that writes no guard of another

module _ (i : Tables) (others : List Step) (a : List Machine) (here : StandsHere i a others) where
  done : Applied others a (applied a others)
  done = applied_at_once a others here.distinct here.stands.known

  -- a process that isn't named stays
  stays : (p : ℕ) → is_named (length others) (process_in others) p ≡ false →
      machine_at a p ≡ machine_at (applied a others) p
  stays p unnamed =
      sym (done.stayed p (λ j within same. both_ways (is_named (length others) (process_in others) p) unnamed
      (is_named_at (length others) j _ p within same)))

  -- a machine that no step leaves or enters holds the same processes
  free_machine : (m : ℕ) → touches_machine others m ≡ false → SameOn a (applied a others) m
  unfolding touches_machine
  free_machine m free =
      let parts = or_parts _ _
      free in
      record {
        each = λ p. elim (cases_Bool (is_named (length others) (process_in others) p)) [
          | inl named ↦ let found = is_named_from _ _ p named in
              let j = found.0 in
              let left : machine_at a p ≢ m = λ same. both_ways (is_named (length others) (from_in others) m) parts.0
              (is_named_at _ j _ m found.1 (sym (here.stands.at j found.1)
              ∙ ap (machine_at a) found.2 ∙ same)) in
              let entered : machine_at (applied a others) p ≢ m =
              λ same. both_ways (is_named (length others) (to_in others) m) parts.1
              (is_named_at _ j _ m found.1
              (sym (done.moved j found.1) ∙ ap (machine_at (applied a others)) found.2 ∙ same)) in
              ne_eqb (machine_at a p) m left ∙ sym (ne_eqb (machine_at (applied a others) p) m entered)
          | inr unnamed ↦ ap (λ at. eqb at m) (stays p unnamed)
        ];
      }

  -- a service of which no process moves has the same machines
  free_service : (s : ℕ) → moves_service i others s ≡ false → SameOf i a (applied a others) s
  unfolding moves_service service_in
  free_service s free = record {
    each = λ p of. elim (cases_Bool (is_named (length others) (process_in others) p)) [
      | inl named ↦ let found = is_named_from _ _ p named in
          absurd (both_ways (is_named (length others) (service_in i others) s) free
          (is_named_at _ found.0 _ s found.1 (ap (service_of i) found.2 ∙ of)))
      | inr unnamed ↦ stays p unnamed
    ];
  }

  pub apart_alike : (steps : List Step) → Apart i steps others → HeldAlike i steps a (applied a others)
  unfolding writes
  apart_alike steps apart = record {
    machines = λ m guarded. let g : Machine = record { 0 = m } in
        free_machine m (apart.each (guard.Machine g) (machine_guard i steps g ∙ guarded));
    services = λ s guarded. let g : Service = record { 0 = s } in
        free_service s (apart.each (guard.Service g) (service_guard i steps g ∙ guarded));
  }

module _ (i : Tables) where
  -- what an entry makes
  made_alike : (a : List Machine) (steps : List Step) (made : Option (List Step)) →
      ((others : List Step) → made ≡ Some others → StandsHere i a others) →
      ((others : List Step) → made ≡ Some others → Apart i steps others) → HeldAlike i steps a (after_made a made)
  unfolding after_made
  made_alike a steps None stands apart = alike_self i steps a
  made_alike a steps (Some others) stands apart = apart_alike i others a (stands others refl) steps (apart others refl)

  module _ (a0 : List Machine) (made : List (Option (List Step))) (q n : ℕ) (steps : List Step) where
    -- entry after entry

    same_place : q ≡ n → HeldAlike i steps (made_state a0 made q) (made_state a0 made n)
    same_place same = subst (λ k. HeldAlike i steps (made_state a0 made q) (made_state a0 made k)) same
        (alike_self i steps _)

    one_more : q ≤ n → HeldAlike i steps (made_state a0 made q) (made_state a0 made n) → MadeStand i a0 made (suc n) →
        ApartSince i made q (suc n) steps → HeldAlike i steps (made_state a0 made q) (made_state a0 made (suc n))
    unfolding made_state
    one_more earlier before stand apart =
        alike_then i steps _ _ _ before
        (made_alike _ steps _ (λ others is. stand.each n others (omega arith) is)
        (λ others is. apart.each n others earlier (omega arith) is))

pub guards_keep : GuardsKeepResidents
guards_keep i a0 made q zero steps few stand apart = same_place i a0 made q zero steps (omega arith)
guards_keep i a0 made q (suc n) steps few stand apart = elim (cases_lt n q) [
  | inl later ↦ same_place i a0 made q _ steps (omega arith)
  | inr earlier ↦ one_more i a0 made q n steps earlier
      (guards_keep i a0 made q n steps earlier (record {
        each = λ j others within. stand.each j others (omega arith);
      }) (record { each = λ j others since within. apart.each j others since (omega arith) }))
      stand apart
]

-- a move of an assignment is one of each that is alike for it
pub move_alike : (i : Tables) (a b : List Machine) (steps : List Step) → HeldAlike i steps a b → IsAssignment i b →
    IsMove i a steps → IsMove i b steps
unfolding guards_service moves_service service_in
move_alike i a b steps alike fits move = record {
  fits = fits;
  stands = record {
    known = λ j within. omega (arith, move.stands.known j within, move.fits.one_each, fits.one_each);
    at = λ j within.
        let s = service_in i steps j in
        sym ((alike.services (service_in i steps j)
        (or_left _
        _
        (is_named_at _ j _ _ within refl))).each
        (process_in steps j) refl)
        ∙ move.stands.at j within;
  };
  distinct = move.distinct;
  few = move.few;
  reaches = move.reaches;
}

-- untouched guards keep the verdict
pub untouched_is_right : UntouchedIsRight
untouched_is_right i a0 made q n steps limits sound stand few offered untouched =
    let alike = guards_keep i a0 made q n steps few stand (apart_from_untouched i made q n steps untouched) in
    let later : IsOffered i (made_state a0 made n) steps =
    λ none. move_alike i _ _ steps alike (sound.fits n (omega arith))
    (offered none) in
    record {
      alike = alike;
      offered = later;
      weighed = weighing_is_determined i a0 (made_state a0 made q) (made_state a0 made n) steps limits offered later
          (sound.unbroken q few) (sound.unbroken n (omega arith)) alike;
    }
