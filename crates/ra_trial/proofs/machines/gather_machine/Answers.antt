use Rattle.ra_trial.proofs.OneLine.{machine_gathered}
use Rattle.ra_trial.proofs.machines.gather_machine.Goals as goal

pub returns-clause-items : goal.returns-clause-items
returns-clause-items c =
    machine_gathered _ _ c.clear.ensures.items c.extend_from_slice.ensures.items c.front.ensures
    c.add_way_costs.ensures.items
