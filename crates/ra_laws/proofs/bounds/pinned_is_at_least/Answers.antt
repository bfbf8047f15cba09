use Rattle.ra_bounds.proofs.PinnedLemmas.{pinned_is_at_least}
use Rattle.ra_laws.proofs.bounds.pinned_is_at_least.Goals as goal

pub returns : goal.returns
returns c = pinned_is_at_least
