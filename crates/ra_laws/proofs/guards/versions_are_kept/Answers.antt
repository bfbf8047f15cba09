use Rattle.ra_laws.proofs.VersionLemmas.{versions_are_kept}
use Rattle.ra_laws.proofs.guards.versions_are_kept.Goals as goal

pub returns : goal.returns
returns c = versions_are_kept
