use Rattle.std.proofs.Common.{refl, sym, subst}
use Rattle.ra_journal.specs.Openings.{opening}
use Rattle.ra_worker.specs.Replicas.{IsAt}
use Rattle.ra_worker.proofs.OpeningLemmas.{same_progress}
use Rattle.ra_worker.proofs.ReplicaLemmas.{at_start}
use Rattle.ra_worker.proofs.replica.Replica.make.Goals as goal

pub returns-clause-value : goal.returns-clause-value
returns-clause-value c = same_progress c.in_ok-world.ensures c.make-proposals.ensures.lots c.make-proposals.ensures.worker
    c.make-proposals.ensures.number refl

pub returns-clause-at : goal.returns-clause-at
returns-clause-at c = λ h.
    let o = opening c.args.inst.now.tables c.args.a0.now.items c.args.lots.now in
    subst (IsAt o h) (sym (same_progress c.in_ok-world.ensures c.make-proposals.ensures.lots c.make-proposals.ensures.worker
    c.make-proposals.ensures.number refl)) (at_start o h c.args.worker)
