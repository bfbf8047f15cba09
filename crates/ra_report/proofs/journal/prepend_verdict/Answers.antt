use Rattle.std.proofs.Common.{arith}
use Rattle.ra_report.specs.JournalTexts.{verdict_text}
use Rattle.ra_report.proofs.LineLemmas.{in_front, at_most}
use Rattle.ra_report.proofs.journal.prepend_verdict.Goals as goal

pub returns-in-Done : goal.returns-in-Done
unfolding verdict_text
returns-in-Done c = rw c.in-Done.is (at_most 113 (omega arith) (in_front c.prepend_wide.ensures c.prepend.ensures))

pub returns-in-Refused : goal.returns-in-Refused
unfolding verdict_text
returns-in-Refused c =
    rw c.in-Refused.is (at_most 113 (omega arith) (in_front c.prepend_cause.ensures c.prepend-in-Refused.ensures))
