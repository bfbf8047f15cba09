-- The words one after another, up to how `++` groups.
use Rattle.std.proofs.Common.{arith, append_assoc}
use Rattle.ra_report.specs.JournalTexts.{step_text}
use Rattle.ra_report.proofs.LineLemmas.{in_front, at_most}
use Rattle.ra_report.proofs.journal.prepend_step.Goals as goal

pub returns : goal.returns
unfolding step_text
returns c = simp append_assoc
    (at_most 63 (omega arith)
    (in_front (in_front (in_front c.prepend_byte.ensures c.prepend_marked.ensures) c.prepend_marked-2.ensures)
    c.prepend_number.ensures))
