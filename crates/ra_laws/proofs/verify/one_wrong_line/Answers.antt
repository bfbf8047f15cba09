use Rattle.ra_verify.proofs.AnswerLemmas.{one_wrong_line}
use Rattle.ra_laws.proofs.verify.one_wrong_line.Goals as goal

pub returns : goal.returns
returns c = one_wrong_line
