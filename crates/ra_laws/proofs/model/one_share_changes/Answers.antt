use Rattle.ra_model.proofs.TallyLemmas.{tally_set}
use Rattle.ra_laws.proofs.model.one_share_changes.Goals as goal

pub returns : goal.returns
returns c = tally_set
