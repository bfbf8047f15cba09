use Rattle.std.proofs.Common.{arith}
use Rattle.ra_report.specs.JournalTexts.{kind_text}
use Rattle.ra_report.proofs.LineLemmas.{at_most}
use Rattle.ra_report.proofs.journal.prepend_kind.Goals as goal

pub returns-in-Shift : goal.returns-in-Shift
unfolding kind_text
returns-in-Shift c = rw c.in-Shift.is (at_most 7 (omega arith) c.prepend.ensures)

pub returns-in-Swap : goal.returns-in-Swap
unfolding kind_text
returns-in-Swap c = rw c.in-Swap.is (at_most 7 (omega arith) c.prepend-in-Swap.ensures)

pub returns-in-Chain : goal.returns-in-Chain
unfolding kind_text
returns-in-Chain c = rw c.in-Chain.is (at_most 7 (omega arith) c.prepend-in-Chain.ensures)
