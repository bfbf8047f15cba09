use Rattle.ra_report.proofs.LineEnds.{line_before, entry_is_line, entries_before, head_line_count, head_before}
use Rattle.ra_laws.proofs.ReportLemmas.{lines_behind}
use Rattle.ra_report.proofs.ReportTexts.{report_parts}
use Rattle.ra_report.specs.JournalTexts.{entry_line}
use Rattle.ra_journal.specs.Openings.{opening}
use Rattle.ra_laws.proofs.report.report_has_its_lines.Goals as goal

pub returns-clause-entry : goal.returns-clause-entry
returns-clause-entry c = λ j e rest. line_before (entry_line j e) rest (entry_is_line j e)

pub returns-clause-entries : goal.returns-clause-entries
returns-clause-entries c = entries_before

pub returns-clause-report : goal.returns-clause-report
returns-clause-report c = λ o h. (
  report_parts o h,
  record {
    ten = head_line_count o h;
    before = head_before o h;
  },
)

pub returns-clause-behind : goal.returns-clause-behind
returns-clause-behind c = lines_behind
