use Rattle.ra_report.proofs.EntryTexts.{entry_then}
use Rattle.ra_laws.proofs.report.same_line_same_entry.Goals as goal

pub returns : goal.returns
returns c = λ j e f x y same. let both = entry_then j e f x y same in (both.same, both.rest)
