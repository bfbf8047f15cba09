-- One resource after another.
use Rattle.std.proofs.lemmas.Grind.{common_steps}
use Rattle.std.proofs.Common.{length-append, arith}
use Rattle.ra_edit.proofs.LoadLaws.{each_pushed}
use Rattle.ra_edit.proofs.rows.row_without.Goals as goal

pub loop-r-preserved : goal.loop-r-preserved
loop-r-preserved c = grind (arith, common_steps, length-append, each_pushed)
