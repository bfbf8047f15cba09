-- The change of process and machine cost by a move.
use Rattle.std.specs.Prelude.{◌≡◌, ◌≤◌, ◌^◌, List, length}
use Rattle.ra_base.specs.Sums.{total}
use Rattle.ra_model.specs.Situations.{Situation}
use Rattle.ra_moves.specs.declared.steps.Step.{Step}
use Rattle.ra_moves.specs.Values.{gone, come}
use Rattle.ra_weigh.specs.PlaceCosts.{place_cost}
use Rattle.ra_weigh.specs.declared.amounts.Change.{Change}

-- what its processes cost on the machines that they enter is added, and what they cost on those that they leave is taken
-- away
pub record IsChangeOfWays (st : Situation) (steps : List Step) (change : Change) : Type 0 where
  pub added : change.added ≡ total (length steps) (come (place_cost st.tables st.start) steps)
  pub taken : change.taken ≡ total (length steps) (gone (place_cost st.tables st.start) steps)
  pub added_few : change.added ≤ 2 ^ 110
  pub taken_few : change.taken ≤ 2 ^ 110
