-- The settling of a weighed move: what has to hold of the moved counts, of the cost and of the weighing.
use Rattle.std.specs.Prelude.{◌≡◌, ℕ, ◌<◌, ◌≤◌, List, length, slice_index}
use Rattle.ra_base.specs.declared.costs.MovedCount.{MovedCount}
use Rattle.ra_base.specs.declared.ids.Machine.{Machine}
use Rattle.ra_model.specs.declared.raw.Tables.{Tables}
use Rattle.ra_model.specs.Numbers.{service_count, process_count}
use Rattle.ra_model.specs.Assignments.{IsAssignment}
use Rattle.ra_model.specs.Situations.{Situation, situation, moved_at, cost_at}
use Rattle.ra_cells.specs.MovedCounts.{MovedCounts}
use Rattle.ra_moves.specs.declared.steps.Step.{Step}
use Rattle.ra_moves.specs.declared.verdicts.Weighed.{Weighed}
use Rattle.ra_moves.specs.Moving.{IsOffered}
use Rattle.ra_moves.specs.Weighing.{weighed_of}

-- the moved counts of a situation: one for each service, none above the number of all processes
pub record AreMovedOf (st : Situation) (moved : MovedCounts) : Type 0 where
  pub one_each : length moved.counts ≡ service_count st.tables
  pub each : (s : ℕ) → s < service_count st.tables → slice_index moved.counts s ≡ moved_at st s
  pub limit : moved.limit ≡ process_count st.tables

-- moved counts and cost are those of a situation, and the weighing is that of a move of it
pub record IsSettling (st : Situation) (steps : List Step) (moved : MovedCounts) (kept : ℕ)
    (weighed : Weighed) : Type 0 where
  pub start : IsAssignment st.tables st.start
  pub fits : IsAssignment st.tables st.here
  pub moves : IsOffered st.tables st.here steps
  pub counts : AreMovedOf st moved
  pub cost : kept ≡ cost_at st
  pub weighing : weighed ≡ weighed_of st steps

-- such a settling exists for some move of some assignments
pub record HasSettling (i : Tables) (moved : MovedCounts) (kept : ℕ) (weighed : Weighed) : Type 0
  where
    pub initial : List Machine
    pub assignment : List Machine
    pub steps : List Step
    pub settling : IsSettling (situation i initial assignment) steps moved kept weighed

-- the counts have room for a change: its service is there, and its new count within the limit
pub record IsRoomFor (moved : MovedCounts) (c : MovedCount) : Type 0 where
  pub there : c.service.0 < length moved.counts
  pub within : c.after ≤ moved.limit
