-- What a move makes of an assignment.
use Rattle.std.specs.Prelude.{◌≡◌, ◌≢◌, ℕ, zero, suc, ◌<◌, List, length, map, slice_set}
use Rattle.ra_base.specs.declared.ids.Machine.{Machine}
use Rattle.ra_model.specs.Assignments.{machine_at}
use Rattle.ra_model.specs.Situations.{Situation}
use Rattle.ra_moves.specs.declared.steps.Step.{Step}
use Rattle.ra_moves.specs.Steps.{step_at, process_in, to_in}

-- all steps at once: b is a with each named process on its `to`, and the other processes stay
pub record Applied (steps : List Step) (a b : List Machine) : Type 0 where
  pub same_length : length b ≡ length a
  pub moved : (j : ℕ) → j < length steps → machine_at b (process_in steps j) ≡ to_in steps j
  pub stayed : (p : ℕ) → ((j : ℕ) → j < length steps → process_in steps j ≢ p)
      → machine_at b p ≡ machine_at a p

-- one step after another: a after the first n steps
unfoldable pub after_steps : List Machine → List Step → ℕ → List Machine
after_steps a steps zero = a
after_steps a steps (suc n) =
    slice_set (after_steps a steps n) (process_in steps n) (step_at steps n).to

-- a after all steps
unfoldable pub applied : List Machine → List Step → List Machine
applied a steps = after_steps a steps (length steps)

-- the situation after a move
abbrev pub after_move : Situation → List Step → Situation
after_move st steps = record st { here = applied st.here steps }

-- the reverse of a step, and of all steps
unfoldable pub turned_step : Step → Step
turned_step s = record { process = s.process; from = s.to; to = s.from }

unfoldable pub turned : List Step → List Step
turned steps = map turned_step steps
