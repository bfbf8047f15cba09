use Rattle.std.proofs.Common.{◌<◌, ap, subst, arith}
use Rattle.ra_draws.specs.Lots.{budget_of}
use Rattle.ra_draws.specs.declared.budgets.Lots.{Lots}
use Rattle.ra_draws.specs.declared.sources.Lot.{Lot}
use Rattle.ra_journal.specs.Entries.{worker_count, budget}
use Rattle.ra_turn.specs.Passes.{seen_by}
use Rattle.ra_shared.specs.Shares.{start_of}
use Rattle.test_workers.proofs.PassLemmas.{new_commit}
use Rattle.test_workers.proofs.commits.passes.commit_first.Goals as goal

pub lot-requires : goal.lot-requires
unfolding worker_count
lot-requires g c = c.requires.exists

pub commit-requires : goal.commit-requires
unfolding budget budget_of
commit-requires g c =
    let w = c.args.worker in
    let o = start_of c.args.shared.now in
    let own = ap (λ (x : Lot). x.budget) c.lot.ensures in
    let some : 0 < budget c.args.lots.now w = omega (arith, own) in
    record {
      rest = c.requires.new.rest;
      left = omega (arith, c.requires.new.left);
      commit = new_commit o (seen_by c.args.pass.now) c.args.pass.now.number w c.args.plan.now c.requires.new.seen
          c.requires.new.number
          (subst (λ (l : Lots). w < worker_count l) c.requires.lots c.requires.exists)
          (subst (λ (l : Lots). 0 < budget l w) c.requires.lots some)
          c.requires.plan;
    }

pub commit_and_copy-requires : goal.commit_and_copy-requires
unfolding budget budget_of
commit_and_copy-requires g c =
    let w = c.args.worker in
    let o = start_of c.args.shared.now in
    let own = ap (λ (x : Lot). x.budget) c.lot.ensures in
    let some : 0 < budget c.args.lots.now w = omega (arith, own) in
    record {
      rest = c.requires.new.rest;
      left = omega (arith, c.requires.new.left);
      commit = new_commit o (seen_by c.args.pass.now) c.args.pass.now.number w c.args.plan.now c.requires.new.seen
          c.requires.new.number
          (subst (λ (l : Lots). w < worker_count l) c.requires.lots c.requires.exists)
          (subst (λ (l : Lots). 0 < budget l w) c.requires.lots some)
          c.requires.plan;
    }
