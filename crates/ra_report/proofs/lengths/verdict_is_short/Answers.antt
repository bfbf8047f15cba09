use Rattle.ra_report.proofs.LengthLaws.{verdict_done, verdict_refused}
use Rattle.ra_report.proofs.lengths.verdict_is_short.Goals as goal

pub returns-in-Done : goal.returns-in-Done
returns-in-Done c = rw c.in-Done.is (verdict_done c.in-Done.cost c.cost_is_short.ensures)

pub returns-in-Refused : goal.returns-in-Refused
returns-in-Refused c = rw c.in-Refused.is (verdict_refused c.in-Refused.cause c.cause_is_short.ensures)
