-- What exists before a run.
use Rattle.std.specs.Prelude.{◌≡◌}
use Rattle.ra_base.specs.Listed.{Listed}
use Rattle.ra_base.specs.declared.ids.Machine.{Machine}
use Rattle.ra_draws.specs.declared.budgets.Lots.{Lots}
use Rattle.ra_model.specs.declared.numbers.Instance.{Instance}
use Rattle.ra_shared.specs.Shares.{start_of}
use Rattle.ra_worker.specs.declared.crew.Crew.{Crew}

-- the workers share a journal of an instance, an initial assignment and lots
pub record IsFor (inst : Instance) (a0 : Listed Machine) (l : Lots) (crew : Crew) : Type 0 where
  pub instance : (start_of crew.shared).inst ≡ inst
  pub initial : (start_of crew.shared).a0 ≡ a0
  pub lots : (start_of crew.shared).lots ≡ l
