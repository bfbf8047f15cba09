use Rattle.std.proofs.Common.{◌≡◌, Result, Ok, Err, IfOk, ap, sym, ◌∙◌, subst}
use Rattle.ra_journal.specs.Openings.{opening}
use Rattle.ra_worker.specs.Replicas.{Progress, IsAt}
use Rattle.ra_worker.specs.declared.worker.Worker.{Worker}
use Rattle.ra_worker.specs.Crews.{HasNotBegun}
use Rattle.ra_worker.proofs.crew.make_worker.Goals as goal

-- what follows from two facts of a value, if there is one
from_both : {T E : Type 0} {P Q R : T → Type 0} (made : Result T E) → IfOk made P → IfOk made Q →
    ((x : T) → P x → Q x → R x) → IfOk made R
from_both (Ok x) p q follows = follows x p q
from_both (Err e) p q follows = tt

pub returns-clause-fresh : goal.returns-clause-fresh
returns-clause-fresh c =
    let o = opening c.args.inst.now.tables c.args.a0.now.items c.args.lots.now in
    let fresh : (w : Worker) → w.replica ≡ c.in_ok-replica.replica → w.pass ≡ c.args.pass →
    HasNotBegun o w = λ w same_replica same_pass. record {
      worker = rw (same_pass, same_replica) (ap (λ (r : Progress). r.worker) c.in_ok-replica.ensures.value ∙ c.number.ensures);
      at = λ h. subst (IsAt o h) (sym same_replica)
          (c.in_ok-replica.ensures.at h);
    } in
    from_both {P = λ (w : Worker). w.replica ≡ c.in_ok-replica.replica} {Q = λ (w : Worker). w.pass ≡ c.args.pass}
    {R = HasNotBegun o} c.make-2.result
    c.make-2.ensures.replica c.make-2.ensures.pass fresh
