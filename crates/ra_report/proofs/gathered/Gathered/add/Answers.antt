use Rattle.std.proofs.Common.{refl, le_refl, rules}
use Rattle.ra_report.proofs.GatheringLemmas.{moves_wait}
use Rattle.ra_report.proofs.gathered.Gathered.add.Goals as goal

pub returns-else-not-add : goal.returns-else-not-add
returns-else-not-add g c = (refl, le_refl _, moves_wait _ _ _ _ _ _ (search rules))
