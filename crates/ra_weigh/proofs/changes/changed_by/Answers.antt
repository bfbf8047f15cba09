use Rattle.std.proofs.Common.{◌∙◌, arith}
use Rattle.std.specs.Int.{w128}
use Rattle.std.proofs.lemmas.Int.{to_z-of_z}
use Rattle.ra_weigh.proofs.ChangeLaws.{local_is, weighing_is}
use Rattle.ra_weigh.proofs.changes.changed_by.Goals as goal

pub returns : goal.returns
returns c = grind (arith, weighing_is, to_z-of_z, local_is)
