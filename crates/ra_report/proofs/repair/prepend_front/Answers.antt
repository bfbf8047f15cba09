use Rattle.std.proofs.Common.{arith}
use Rattle.ra_report.specs.RepairTexts.{try_front}
use Rattle.ra_report.proofs.LineLemmas.{in_front, at_most}
use Rattle.ra_report.proofs.repair.prepend_front.Goals as goal

pub returns : goal.returns
unfolding try_front
returns c = at_most 27 (omega arith) (in_front (rw c.kind.ensures at c.prepend_kind.ensures) c.prepend_number.ensures)
