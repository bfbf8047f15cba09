-- What the steps of a move name.
use Rattle.std.proofs.Common.{◌≡◌, ℕ, ◌+◌, ◌<◌, ◌≤◌, arith, Option, Some, None, List, length, refl, subst, ⊎_elim}
use Rattle.std.proofs.lemmas.Bool.{cases_lt}
use Rattle.ra_base.specs.Searches.{or_else}
use Rattle.ra_base.specs.declared.causes.Cause.{Cause}
use Rattle.ra_model.specs.Numbers.{machine_count}
use Rattle.ra_model.specs.Situations.{Situation, IsSound}
use Rattle.ra_moves.specs.declared.steps.Step.{Step}
use Rattle.ra_moves.specs.Judging.{repeat_of, broken_by}
use Rattle.ra_moves.specs.Moving.{MayMove, IsOffered}
use Rattle.ra_moves.specs.Steps.{step_at, process_in, from_in, to_in, StandsAt}
use Rattle.ra_moves.proofs.Repeats.{distinct_from_none}
use Rattle.ra_search.specs.Moving.{Stands, StepStands, Names}

module _ (st : Situation) (steps : List Step) where
  -- the first n steps stand
  pub record StandsTo (n : ℕ) : Type 0 where
    pub each : (j : ℕ) → j < n → StepStands st (step_at steps j)

  pub stands_none : StandsTo 0
  stands_none = record { each = λ j below. absurd (omega (arith, below)) }

  pub stands_more : (n : ℕ) (step : Step) → StandsTo n → step ≡ step_at steps n → StepStands st step → StandsTo (n + 1)
  stands_more n step to is one = record {
    each = λ j below. ⊎_elim
        (λ before. to.each j before)
        (λ past. subst (λ k. StepStands st (step_at steps k)) (omega arith) (subst (λ s. StepStands st s) is one))
        (cases_lt j n);
  }

  pub stands_all : (n : ℕ) → length steps ≤ n → StandsTo n → Stands st steps
  stands_all n all to = record { each = λ j within. to.each j (omega (arith, within, all)) }

  -- a move that stands can be weighed
  pub offered : IsSound st → Stands st steps → length steps ≤ 3 → IsOffered st.tables st.here steps
  unfolding process_in from_in to_in
  offered sound stands few none = record {
    fits = sound.fits;
    stands = record {
      known = λ j within. omega (arith, (stands.each j within).process, sound.fits.one_each);
      at = λ j within. (stands.each j within).from;
    };
    distinct = distinct_from_none steps none;
    few = few;
    reaches = λ j within. (stands.each j within).to;
  }

  -- a move of the list stands
  pub may_stand : IsSound st → MayMove st steps → Stands st steps
  unfolding process_in from_in to_in
  may_stand sound may = record {
    each = λ j within. record {
      process = omega (arith, may.stands.known j within, sound.fits.one_each);
      from = may.stands.at j within;
      to = may.reaches j within;
    };
  }

  -- and names machines of the instance
  pub names : IsSound st → Stands st steps → Names st.tables steps
  names sound stands = record {
    each = λ j within.
        let one = stands.each j within in
        record {
          process = one.process;
          from = omega (arith, one.from, sound.fits.in_range _ one.process);
          to = one.to;
        };
  }

  -- each process is on the machine that its step leaves, and enters a machine of the instance
  pub stands_at : IsSound st → Stands st steps → StandsAt from_in steps st.here
  unfolding process_in from_in
  stands_at sound stands = record {
    known = λ j within. omega (arith, (stands.each j within).process, sound.fits.one_each);
    at = λ j within. (stands.each j within).from;
  }

  pub reaches : Stands st steps → (j : ℕ) → j < length steps → to_in steps j < machine_count st.tables
  unfolding to_in
  reaches stands j within = (stands.each j within).to

-- a move that breaks nothing names no process twice
pub no_repeat : (st : Situation) (steps : List Step) → broken_by st steps ≡ None → repeat_of steps ≡ None
unfolding broken_by or_else
no_repeat st steps free = first_none _ _ free
  where
    first_none : (one other : Option Cause) → or_else one other ≡ None → one ≡ None
    first_none None other none = refl
    first_none (Some cause) other none = absurd (cc)
