-- Moves that can be weighed.
use Rattle.std.specs.Prelude.{◌≡◌, ℕ, ◌<◌, ◌≤◌, List, length, None}
use Rattle.ra_base.specs.declared.ids.Machine.{Machine}
use Rattle.ra_model.specs.declared.raw.Tables.{Tables}
use Rattle.ra_model.specs.Numbers.{machine_count}
use Rattle.ra_model.specs.Assignments.{IsAssignment}
use Rattle.ra_model.specs.Situations.{Situation}
use Rattle.ra_moves.specs.declared.steps.Step.{Step}
use Rattle.ra_moves.specs.Steps.{from_in, to_in, StandsAt, Distinct}
use Rattle.ra_moves.specs.Judging.{repeat_of}

-- a move of an assignment: each process is named once, is on the machine that its step leaves, and enters a machine
-- of the instance
pub record IsMove (i : Tables) (a : List Machine) (steps : List Step) : Type 0 where
  pub fits : IsAssignment i a
  pub stands : StandsAt from_in steps a
  pub distinct : Distinct steps
  pub few : length steps ≤ 3
  pub reaches : (j : ℕ) → j < length steps → to_in steps j < machine_count i

-- a move of the assignment as it is now
abbrev pub MayMove : Situation → List Step → Type 0
MayMove st steps = IsMove st.tables st.here steps

-- a move that can be weighed: unless it names a process twice, it is a move of the assignment
abbrev pub IsOffered : Tables → List Machine → List Step → Type 0
IsOffered i a steps = repeat_of steps ≡ None → IsMove i a steps
