-- The row of use is that of the machine.
use Rattle.std.proofs.Common.{List}
use Rattle.ra_base.specs.declared.ids.Machine.{Machine}
use Rattle.ra_world.proofs.RenewalLaws.{load_here}
use Rattle.ra_world.proofs.renewal.load_of.Goals as goal

pub returns-clause-value : goal.returns-clause-value
returns-clause-value c = λ (a : List Machine) stand. load_here
    c.requires.instance (c.usage_row.ensures.values a stand) c.row_load.ensures.value
