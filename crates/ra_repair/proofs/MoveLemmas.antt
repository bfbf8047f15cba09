-- The steps of a move one after another, and back.
use Rattle.std.proofs.Common.{◌≡◌, ℕ, ◌<◌, List, length, None, sym, ap, ◌∙◌, arith}
use Rattle.std.proofs.Math.ListN.{get_or-map}
use Rattle.std.proofs.lemmas.List.{length-map}
use Rattle.ra_base.specs.declared.ids.Machine.{Machine}
use Rattle.ra_base.specs.Searches.{or_else}
use Rattle.ra_base.proofs.Searches.{left_none, right_none}
use Rattle.ra_model.specs.declared.raw.Tables.{Tables}
use Rattle.ra_model.specs.Numbers.{machine_count}
use Rattle.ra_model.specs.Assignments.{IsAssignment, machine_at}
use Rattle.ra_moves.specs.declared.steps.Step.{Step}
use Rattle.ra_moves.specs.Steps.{step_at, process_in, from_in, to_in, StandsAt}
use Rattle.ra_moves.specs.Replacing.{after_steps, applied, turned_step, turned}
use Rattle.ra_moves.specs.Judging.{repeat_of, same_of}
use Rattle.ra_moves.proofs.Applying.{length_after, after_stayed, after_moved, back}
use Rattle.ra_moves.proofs.FollowLemmas.{apart_from_none, IsStep, step_needs}
use Rattle.ra_moves.proofs.Repeats.{distinct_from_none}
use Rattle.ra_repair.specs.Following.{AreSteps, AreMade}

module _ (steps : List Step) (j : ℕ) where
  -- the way back

  step_turned : step_at (turned steps) j ≡ turned_step (step_at steps j)
  unfolding turned turned_step step_at
  step_turned = get_or-map turned_step steps j (record {
    process = record { 0 = 0 };
    from = record { 0 = 0 };
    to = record { 0 = 0 };
  })

  process_turned : process_in (turned steps) j ≡ process_in steps j
  unfolding process_in turned_step
  process_turned = ap (λ (s : Step). s.process.0) (step_turned)

pub length_turned : (steps : List Step) → length (turned steps) ≡ length steps
unfolding turned
length_turned steps = length-map steps turned_step

module _ (i : Tables) (a : List Machine) where
  -- a move that isn't refused as Repeat or Same
  pub steps_from : (steps : List Step) → StandsAt from_in steps a →
      ((j : ℕ) → j < length steps → to_in steps j < machine_count i) →
      or_else (repeat_of steps) (same_of steps) ≡ None → AreSteps i a steps
  steps_from steps stand reach none = record {
    stand = stand;
    distinct = distinct_from_none steps (left_none _ _ none);
    apart = apart_from_none steps (right_none _ _ none);
    reach = reach;
  }

  module _ (b : List Machine) (steps : List Step) (j : ℕ) (s : Step) (fits : IsAssignment i a) where
    -- what one of the steps needs, if those before it are done
    pub step_of : AreSteps i a steps → j < length steps → b ≡ after_steps a steps j → s ≡ step_at steps j → IsStep i b s
    step_of are within made is =
        step_needs i a b steps j s fits are.stand are.distinct are.apart are.reach within made is

    -- what a step back needs, if those before it are taken back
    pub back_of : AreMade i a steps → j < length steps → b ≡ after_steps a (turned steps) j → s ≡ step_at steps j →
        IsStep i b (turned_step s)
    unfolding process_in from_in to_in turned_step
    back_of are within made is = record {
      known = omega (arith, ap (λ (x : Step). x.process.0) is, are.stand.known j within, fits.one_each);
      reach = omega (arith, ap (λ (x : Step). x.from.0) is, are.reach j within);
      apart = λ same. are.apart j within
          (sym (ap (λ (x : Step). x.from.0) is) ∙ sym same ∙ ap (λ (x : Step). x.to.0) is);
      at_from = ap (machine_at b) (ap (λ (x : Step). x.process.0) is)
          ∙ ap (λ xs. machine_at xs (process_in steps j)) made
          ∙ after_stayed a (turned steps) j (process_in steps j)
          (λ k before same. are.distinct.apart k j before within (sym (process_turned steps k) ∙ same))
          ∙ are.stand.at j within ∙ sym (ap (λ (x : Step). x.to.0) is);
    }

  -- a move that was made can be taken back
  pub made_of : (b : List Machine) (steps : List Step) → IsAssignment i a → AreSteps i a steps → b ≡ applied a steps →
      AreMade i b steps
  unfolding applied
  made_of b steps fits are is = record {
    stand = record {
      known = λ j within. omega (arith, ap length is, length_after, are.stand.known j within);
      at = λ j within. ap (λ xs. machine_at xs (process_in steps j)) is
          ∙ after_moved a steps (length steps) (omega arith) are.distinct are.stand.known j within;
    };
    distinct = are.distinct;
    apart = are.apart;
    reach = λ j within.
        omega (
          arith,
          are.stand.at j within,
          fits.in_range (process_in steps j) (omega (arith, fits.one_each, are.stand.known j within)),
        );
  }

  -- and the way back ends where it began
  pub back_again : (b c : List Machine) (steps : List Step) → AreSteps i a steps → AreMade i b steps →
      b ≡ applied a steps → c ≡ applied b (turned steps) → c ≡ a
  back_again b c steps are made is again = (back steps b c made.distinct made.stand again).gives_back a are.stand is
