use Rattle.std.proofs.Common.{refl}
use Rattle.ra_report.proofs.GatheringLemmas.{moves_waiting}
use Rattle.ra_report.proofs.gathered.Gathered.put_waiting.Goals as goal

pub returns-clause-adds : goal.returns-clause-adds
returns-clause-adds g c = (
  refl,
  c.put_unless-self.ensures.never_falls,
  rw c.clear.ensures (moves_waiting _ _ _ _ _ _ _ (rw c.as_slice.ensures at c.put_unless-self.ensures.moves)),
)
