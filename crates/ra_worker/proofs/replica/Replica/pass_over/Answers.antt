use Rattle.std.proofs.Common.{refl}
use Rattle.ra_worker.proofs.OpeningLemmas.{same_progress}
use Rattle.ra_worker.proofs.ReplicaLemmas.{passed_over}
use Rattle.ra_worker.proofs.replica.Replica.pass_over.Goals as goal

pub returns : goal.returns
returns c = rw (← c.self.view_is)
    (passed_over _ _ c.args.to (same_progress refl c.advance.ensures.lots c.advance.ensures.worker c.advance.ensures.number refl))
