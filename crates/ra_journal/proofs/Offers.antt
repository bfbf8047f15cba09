-- What is planned at an assignment can be weighed there, and can still be weighed if its guards keep their residents.
use Rattle.std.proofs.Common.{◌≡◌, ℕ, ◌<◌, ◌≤◌, true, List, length, sym, refl, ◌∙◌, arith, eq-eqb}
use Rattle.std.proofs.lemmas.Bool.{or_left, eqb-true}
use Rattle.ra_base.specs.declared.causes.Drawing.{Drawing}
use Rattle.ra_base.specs.declared.ids.Machine.{Machine}
use Rattle.ra_base.proofs.Named.{is_named_at}
use Rattle.ra_model.specs.declared.raw.Tables.{Tables}
use Rattle.ra_model.specs.Limits.{WellFormed}
use Rattle.ra_model.specs.Assignments.{IsAssignment, machine_at}
use Rattle.ra_model.specs.Situations.{Situation}
use Rattle.ra_moves.specs.declared.steps.MoveKind.{MoveKind}
use Rattle.ra_moves.specs.declared.steps.MoveKind.TheVariants.{Shift, Swap, Chain}
use Rattle.ra_moves.specs.declared.steps.Step.{Step}
use Rattle.ra_moves.specs.Steps.{process_in, from_in}
use Rattle.ra_moves.specs.Options.{shift_of, swap_of, chain_of, option_of, option_at, plan_of}
use Rattle.ra_moves.proofs.OptionLemmas.{option_stands, option_reaches}
use Rattle.ra_moves.proofs.Repeats.{distinct_from_none}
use Rattle.ra_moves.specs.Touched.{touches_machine}
use Rattle.ra_moves.specs.Moving.{IsOffered}
use Rattle.ra_moves.specs.Alike.{HeldAlike}

option_few : (k : MoveKind) (a : List Machine) (x : List ℕ) (m : ℕ) (d : Drawing) (o : ℕ) →
    length (option_of k a x m d o).steps ≤ 3
unfolding option_of shift_of swap_of chain_of
option_few Shift a x m d o = omega arith
option_few Swap a x m d o = omega arith
option_few Chain a x m d o = omega arith

pub plan_offered : (st : Situation) (x : List ℕ) (d : Drawing) (rise : ℕ) → WellFormed st.tables →
    IsAssignment st.tables st.here → IsOffered st.tables st.here (plan_of st x d rise).steps
unfolding plan_of option_at
plan_offered st x d rise limits fits = grind (arith, option_stands, distinct_from_none, option_few, option_reaches)

-- a machine that a step leaves is an end of the move
left_is_end : (steps : List Step) (j : ℕ) → j < length steps → touches_machine steps (from_in steps j) ≡ true
unfolding touches_machine
left_is_end steps j within = or_left _ _ (is_named_at (length steps) j (from_in steps) (from_in steps j) within refl)

-- its processes stay where they are
stays_there : (i : Tables) (a b : List Machine) (steps : List Step) (j : ℕ) → HeldAlike i steps a b → j < length steps →
    machine_at a (process_in steps j) ≡ from_in steps j → machine_at b (process_in steps j) ≡ from_in steps j
stays_there i a b steps j alike within there =
    let same = (alike.machines (from_in steps j) (left_is_end steps j within)).each (process_in steps j) in
    eqb-true (machine_at b (process_in steps j)) (from_in steps j)
    (sym same ∙ eq-eqb (machine_at a (process_in steps j)) (from_in steps j) there)

pub offered_alike : (i : Tables) (a b : List Machine) (steps : List Step) → HeldAlike i steps a b → IsAssignment i b →
    IsOffered i a steps → IsOffered i b steps
offered_alike i a b steps alike fits offered = λ none.
    let before = offered none in
    record {
      fits = fits;
      stands = record {
        known = λ j within. omega (arith, before.stands.known j within, before.fits.one_each, fits.one_each);
        at = λ j within. stays_there i a b steps j alike within (before.stands.at j within);
      };
      distinct = before.distinct;
      few = before.few;
      reaches = before.reaches;
    }
