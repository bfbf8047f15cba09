use Rattle.ra_laws.proofs.VerifyLemmas.{none_wrong_is_report}
use Rattle.ra_laws.proofs.verify.none_wrong_is_report.Goals as goal

pub returns : goal.returns
returns c = none_wrong_is_report
