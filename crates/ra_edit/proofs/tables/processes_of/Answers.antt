use Rattle.std.proofs.lemmas.Grind.{common_steps}
use Rattle.std.proofs.Common.{arith, length-append}
use Rattle.ra_edit.proofs.CopyLaws.{process_more}
use Rattle.ra_edit.proofs.tables.processes_of.Goals as goal

pub loop-p-preserved : goal.loop-p-preserved
loop-p-preserved c = grind (arith, common_steps, process_more, length-append)
