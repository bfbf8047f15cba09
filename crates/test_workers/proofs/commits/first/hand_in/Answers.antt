use Rattle.std.proofs.Common.{◌<◌, ap, arith}
use Rattle.ra_draws.specs.Lots.{lot_at, budget_of}
use Rattle.ra_draws.specs.declared.budgets.Lots.{Lots}
use Rattle.ra_draws.specs.declared.sources.Lot.{Lot}
use Rattle.ra_journal.specs.Entries.{worker_count, budget}
use Rattle.ra_journal.specs.Journals.{opening_in}
use Rattle.test_workers.proofs.FirstLemmas.{first_commit}
use Rattle.test_workers.proofs.commits.first.hand_in.Goals as goal

pub made_by-requires : goal.made_by-requires
unfolding worker_count
made_by-requires c = let same = ap (λ (l : Lots). worker_count l) c.lots-lots.ensures.value in
    omega (arith, c.if-worker-len.false, c.len.ensures.value, same)

pub commit-requires : goal.commit-requires
unfolding worker_count budget budget_of
commit-requires c =
    let j = c.args.journal.now in
    let l = j.lots in
    let exists : c.args.worker < worker_count l = let same = ap (λ (l : Lots). worker_count l) c.lots-lots.ensures.value in
    omega (arith, c.if-worker-len.false, c.len.ensures.value, same) in
    let own = ap (λ (x : Lot). x.budget) c.lot.ensures in
    let all = ap (λ (x : Lots). (lot_at x.lots.items c.args.worker).budget) c.lots-lots.ensures.value in
    let some : 0 < budget l c.args.worker = omega (arith, own, all, c.if-lot-eq0.false) in
    record {
      commit = first_commit (opening_in j) j.entries c.args.worker
          c.args.plan.now
          c.requires exists some (omega (arith, c.if-made_by-gt0.false, c.made_by.ensures));
    }
