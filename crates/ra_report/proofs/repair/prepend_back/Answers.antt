use Rattle.std.proofs.Common.{arith, append_assoc}
use Rattle.ra_report.specs.RepairTexts.{try_back}
use Rattle.ra_report.proofs.LineLemmas.{in_front, at_most}
use Rattle.ra_report.proofs.repair.prepend_back.Goals as goal

pub returns : goal.returns
unfolding try_back
returns c = at_most 86 (omega arith)
    (simp append_assoc at
    (in_front (in_front (in_front (in_front c.prepend_byte.ensures c.prepend_wide.ensures) c.prepend_byte-2.ensures)
    c.prepend_wide-2.ensures) c.prepend_taken.ensures))
