use Rattle.ra_guards.proofs.ResidentLemmas.{guards_keep}
use Rattle.ra_laws.proofs.guards.guards_keep_residents.Goals as goal

pub returns : goal.returns
returns c = guards_keep
