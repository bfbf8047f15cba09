use Rattle.std.proofs.Common.{refl}
use Rattle.ra_journal.specs.Entries.{made_by}
use Rattle.ra_worker.proofs.OpeningLemmas.{same_progress}
use Rattle.ra_worker.proofs.replica.Replica.take_entry.Goals as goal

pub returns-clause-followed : goal.returns-clause-followed
unfolding made_by
returns-clause-followed g c = rw (← c.self.view_is) (same_progress c.follow.ensures.world c.count_own.ensures.lots
    c.count_own.ensures.worker c.count_own.ensures.number refl)
