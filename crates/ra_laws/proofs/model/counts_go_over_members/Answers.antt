use Rattle.ra_laws.proofs.ModelLemmas.{members_listed}
use Rattle.ra_laws.proofs.model.counts_go_over_members.Goals as goal

pub returns : goal.returns
returns c = members_listed
