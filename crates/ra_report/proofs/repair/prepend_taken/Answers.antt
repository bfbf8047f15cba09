use Rattle.std.proofs.Common.{arith}
use Rattle.ra_report.specs.RepairTexts.{taken_text}
use Rattle.ra_report.proofs.LineLemmas.{at_most}
use Rattle.ra_report.proofs.repair.prepend_taken.Goals as goal

pub returns-then-taken : goal.returns-then-taken
unfolding taken_text
returns-then-taken c = rw c.if-taken.true (at_most 6 (omega arith) c.prepend.ensures)

pub returns-else-taken : goal.returns-else-taken
unfolding taken_text
returns-else-taken c = rw c.if-taken.false (at_most 6 (omega arith) c.prepend-else-taken.ensures)
