-- The moved counts of a move in a list of three.
use Rattle.std.specs.Prelude.{◌≡◌, ℕ, ◌<◌, List, slice_index_or, Option, None}
use Rattle.ra_base.specs.declared.costs.MovedCount.{MovedCount}
use Rattle.ra_model.specs.Situations.{Situation}
use Rattle.ra_moves.specs.declared.steps.Step.{Step}
use Rattle.ra_moves.specs.Weighing.{services_moved, count_at}

-- the counts of the different services of the first n steps, and None after them
pub record AreCountsOf (st : Situation) (steps : List Step) (n : ℕ)
    (counts : List (Option MovedCount)) : Type 0 where
  pub each : (k : ℕ) → k < 3
      → slice_index_or counts k None ≡ count_at st steps (services_moved st.tables steps n) k
