use Rattle.ra_report.proofs.JournalTexts.{same_lines_same_journal}
use Rattle.ra_laws.proofs.report.same_lines_same_journal.Goals as goal

pub returns : goal.returns
returns c = same_lines_same_journal
