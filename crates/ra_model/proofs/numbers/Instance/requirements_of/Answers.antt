-- The row is the process's part of the requirements.
use Rattle.std.proofs.Common.{refl}
use Rattle.ra_model.proofs.InstanceLemmas.{required_each}
use Rattle.ra_model.proofs.numbers.Instance.requirements_of.Goals as goal

pub returns-clause-each : goal.returns-clause-each
returns-clause-each g c = λ r within.
    required_each c.args.self.now.tables c.args.p.0 c.resources-width.result r _ _ c.resources-width.ensures c.as_slice.ensures
    refl within
