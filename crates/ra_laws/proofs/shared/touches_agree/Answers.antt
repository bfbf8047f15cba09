use Rattle.ra_shared.proofs.Agree.{touches_agree}
use Rattle.ra_laws.proofs.shared.touches_agree.Goals as goal

pub returns : goal.returns
returns c = touches_agree
