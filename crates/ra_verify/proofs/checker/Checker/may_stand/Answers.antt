use Rattle.std.proofs.Common.{◌<◌, length, sym, ap, arith}
use Rattle.std.proofs.lemmas.Bool.{le-leb, leb-true}
use Rattle.ra_journal.specs.Entries.{worker_count}
use Rattle.ra_worker.proofs.CoreLemmas.{place_there}
use Rattle.ra_verify.proofs.checker.Checker.may_stand.Goals.{then-worker-len-via-then-worker-len, then-worker-len-via-else-worker-len+then-q-len}
use Rattle.ra_verify.proofs.checker.Checker.may_stand.Goals as goal

pub returns-then-worker-len : goal.returns-then-worker-len
unfolding worker_count
returns-then-worker-len c = elim c.then-worker-len.branch [
  | then-worker-len-via-then-worker-len w ↦ (
    λ no. absurd (cc),
    λ stands.
        absurd (omega (
          arith,
          stands.worker,
          w.if-worker-len.true,
          c.len.ensures.value,
          ap (λ l. length l.lots.items) c.lots.ensures.value,
        )),
  )
  | then-worker-len-via-else-worker-len+then-q-len w ↦ (
    λ no. absurd (cc),
    λ stands.
        absurd (omega (arith, stands.place, w.if-q-len.true, w.len-else-worker-len.ensures.value)),
  )
]

pub index-replica-requires : goal.index-replica-requires
unfolding worker_count
index-replica-requires c =
    omega (
      arith,
      c.args.self.now.at.one_each,
      c.args.self.now.replicas.ok.0,
      c.if-worker-len.false,
      c.len.ensures.value,
      ap (λ l. length l.lots.items) c.lots.ensures.value,
    )

pub returns : goal.returns
unfolding worker_count
returns c =
    let j = c.args.self.now.journal in
    let exists : c.args.worker < worker_count j.lots =
    omega (arith, c.if-worker-len.false, c.len.ensures.value, ap (λ l. length l.lots.items) c.lots.ensures.value) in
    let there : c.args.worker < length c.args.self.now.replicas.items =
    omega (arith, exists, c.args.self.now.at.one_each) in
    let place = place_there j.entries c.args.self.now.replicas.items c.args.worker c.index-replica.result.now
    there (sym c.index-replica.ensures) in (
      λ yes. record {
        worker = exists;
        place = omega (arith, c.if-q-len.false, c.len-else-worker-len.ensures.value);
        ahead = omega (arith, place, c.place.ensures, leb-true c.place.result c.args.q yes);
      },
      λ stands. le-leb c.place.result c.args.q (omega (arith, place, c.place.ensures, stands.ahead)),
    )
