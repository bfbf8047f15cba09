-- The words one after another, up to how `++` groups.
use Rattle.std.proofs.Common.{arith, append_assoc}
use Rattle.ra_report.specs.JournalTexts.{entry_front}
use Rattle.ra_report.proofs.LineLemmas.{in_front, at_most}
use Rattle.ra_report.proofs.journal.prepend_front.Goals as goal

pub returns : goal.returns
unfolding entry_front
returns c =
    simp append_assoc (at_most 90 (omega arith)
    (in_front (in_front
    (in_front (in_front (rw c.kind.ensures at c.prepend_kind.ensures) c.prepend_marked.ensures)
    c.prepend_marked-2.ensures) c.prepend_marked-3.ensures) c.prepend_number.ensures))
