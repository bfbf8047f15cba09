use Rattle.ra_laws.proofs.SharedLemmas.{versions_agree}
use Rattle.ra_laws.proofs.shared.versions_agree.Goals as goal

pub returns : goal.returns
returns g c = versions_agree
