use Rattle.std.proofs.Common.{ap, ap₂, ◌∙◌, arith}
use Rattle.ra_draws.specs.Allowance.{allowance}
use Rattle.ra_draws.specs.Lots.{budget_of, allowance_of}
use Rattle.ra_draws.specs.declared.sources.Lot.{Lot}
use Rattle.ra_journal.specs.Entries.{worker_count, budget, allowed}
use Rattle.ra_journal.proofs.RoomLemmas.{budgets_few}
use Rattle.ra_journal.proofs.allowances.allowed.Goals as goal

pub lot-requires : goal.lot-requires
unfolding worker_count
lot-requires c = c.requires.worker

pub share_of-requires-clause-left : goal.share_of-requires-clause-left
unfolding budget budget_of
share_of-requires-clause-left c = omega (arith, c.requires.left, ap (λ lot. lot.budget) c.lot.ensures)

pub share_of-requires-clause-few : goal.share_of-requires-clause-few
unfolding budget budget_of
share_of-requires-clause-few c =
    omega (
      arith,
      budgets_few c.args.lots.now c.args.worker c.requires.worker,
      ap (λ lot. lot.budget) c.lot.ensures,
    )

pub returns : goal.returns
unfolding allowed allowance_of budget_of
returns c = c.share_of.ensures ∙ ap₂ (λ slack (lot : Lot). allowance slack lot.budget c.args.k) c.slack.ensures
    c.lot.ensures
