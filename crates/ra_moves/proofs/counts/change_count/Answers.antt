use Rattle.ra_moves.proofs.ChangedCounts.{replaced, kept}
use Rattle.ra_moves.proofs.counts.change_count.Goals as goal

pub returns-in-Some-clause-counts : goal.returns-in-Some-clause-counts
returns-in-Some-clause-counts c = λ s within. let room = rw c.in-Some.is at c.requires in
    replaced _ _ _ c.in-Some.c s c.in-Some.is c.change.ensures.counts room.there

pub returns-in_default-clause-counts : goal.returns-in_default-clause-counts
returns-in_default-clause-counts c = λ s within. kept _ _ s c.in_default.is
