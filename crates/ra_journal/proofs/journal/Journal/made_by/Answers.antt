use Rattle.ra_journal.proofs.RecordingLemmas.{worker_below}
use Rattle.ra_journal.proofs.journal.Journal.made_by.Goals as goal

pub bounds-self-inside-worker : goal.bounds-self-inside-worker
bounds-self-inside-worker c =
    worker_below c.self.inside.lots.now c.args.worker (rw (← c.self.view_is) at c.requires)
