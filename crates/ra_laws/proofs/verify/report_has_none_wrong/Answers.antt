use Rattle.ra_verify.proofs.LimitLemmas.{report_has_none_wrong}
use Rattle.ra_laws.proofs.verify.report_has_none_wrong.Goals as goal

pub returns : goal.returns
returns c = report_has_none_wrong
