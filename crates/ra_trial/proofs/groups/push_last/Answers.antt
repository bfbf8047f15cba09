use Rattle.ra_trial.proofs.Whole.{last_done}
use Rattle.ra_trial.proofs.groups.push_last.Goals as goal

pub returns : goal.returns
returns c = last_done c.push_line.ensures c.push_line-2.ensures c.push_line-3.ensures c.push_line-4.ensures
