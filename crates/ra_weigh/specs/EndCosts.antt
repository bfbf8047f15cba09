-- What the machines of a move cost, before it and after it.
use Rattle.std.specs.Prelude.{◌≡◌, ℕ, ◌≤◌, ◌^◌, List}
use Rattle.ra_base.specs.Sums.{total, fresh}
use Rattle.ra_base.specs.declared.ids.Machine.{Machine}
use Rattle.ra_model.specs.declared.raw.Tables.{Tables}
use Rattle.ra_model.specs.Situations.{Situation}
use Rattle.ra_moves.specs.declared.steps.Step.{Step}
use Rattle.ra_moves.specs.Replacing.{applied}
use Rattle.ra_moves.specs.Values.{end_count, end_in}
use Rattle.ra_weigh.specs.PlaceCosts.{row_cost}
use Rattle.ra_weigh.specs.declared.amounts.Change.{Change}

-- the load and balance cost of the machines that the steps leave or enter, each machine once
abbrev pub cost_of_ends : Tables → List Machine → List Step → ℕ
cost_of_ends i a steps = total (end_count steps) (fresh (end_in steps) (row_cost i a))

-- what is added is this cost after the move, and what is taken away is this cost now
pub record IsChangeAtEnds (st : Situation) (steps : List Step) (change : Change) : Type 0 where
  pub added : change.added ≡ cost_of_ends st.tables (applied st.here steps) steps
  pub taken : change.taken ≡ cost_of_ends st.tables st.here steps
  pub added_few : change.added ≤ 2 ^ 110
  pub taken_few : change.taken ≤ 2 ^ 110
