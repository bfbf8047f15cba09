use Rattle.ra_report.proofs.HeadLines.{written_tells_its_journal, report_tells_its_journal}
use Rattle.ra_laws.proofs.report.report_tells_its_journal.Goals as goal

pub returns : goal.returns
returns c = record { written = written_tells_its_journal; report = report_tells_its_journal }
