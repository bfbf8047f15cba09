use Rattle.ra_verify.proofs.FollowLemmas.{one_next_entry}
use Rattle.ra_laws.proofs.verify.one_next_entry.Goals as goal

pub returns : goal.returns
returns c = one_next_entry
