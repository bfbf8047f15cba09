use Rattle.std.proofs.Common.{arith}
use Rattle.ra_journal.specs.Entries.{worker_count}
use Rattle.ra_journal.proofs.RoomLemmas.{budgets_few}
use Rattle.ra_worker.proofs.ProposalLemmas.{lot_budget}
use Rattle.ra_worker.proofs.proposals.Proposals.budget.Goals as goal

pub lot-requires : goal.lot-requires
unfolding worker_count
lot-requires c = c.args.self.now.drawn.worker

pub returns-clause-value : goal.returns-clause-value
returns-clause-value c = lot_budget c.args.self.now.lots.now c.args.self.now.worker c.lot.result.now c.lot.ensures

pub returns-clause-few : goal.returns-clause-few
returns-clause-few c =
    omega (
      arith,
      lot_budget c.args.self.now.lots.now c.args.self.now.worker c.lot.result.now c.lot.ensures,
      budgets_few c.args.self.now.lots.now c.args.self.now.worker c.args.self.now.drawn.worker,
    )

pub returns-clause-within : goal.returns-clause-within
returns-clause-within c =
    omega (
      arith,
      lot_budget c.args.self.now.lots.now c.args.self.now.worker c.lot.result.now c.lot.ensures,
      c.args.self.now.drawn.within,
    )
