use Rattle.ra_report.proofs.JournalTexts.{one_journal_of_bytes}
use Rattle.ra_laws.proofs.report.one_journal_of_bytes.Goals as goal

pub returns : goal.returns
returns c = one_journal_of_bytes
