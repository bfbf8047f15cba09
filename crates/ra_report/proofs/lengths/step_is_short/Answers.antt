use Rattle.ra_report.proofs.LengthLaws.{step_length}
use Rattle.ra_report.proofs.lengths.step_is_short.Goals as goal

pub returns : goal.returns
returns c = step_length c.args.step c.label_is_short.ensures c.label_is_short-2.ensures c.label_is_short-3.ensures
