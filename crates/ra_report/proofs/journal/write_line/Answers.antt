-- From the end to the front.
use Rattle.std.proofs.Common.{append_assoc}
use Rattle.ra_report.specs.JournalTexts.{entry_line}
use Rattle.ra_report.proofs.LineLemmas.{in_front, alone}
use Rattle.ra_report.proofs.journal.write_line.Goals as goal

pub returns : goal.returns
unfolding entry_line
returns c = simp append_assoc
    (alone c.clear.ensures
    (in_front (in_front (in_front c.prepend_byte.ensures c.prepend_verdict.ensures) c.prepend_steps.ensures)
    c.prepend_front.ensures))
