use Rattle.std.proofs.Common.{◌≡◌, ap, sym, ◌∙◌, arith}
use Rattle.ra_base.specs.Sums.{total}
use Rattle.ra_base.proofs.Sums.{total_none, total_more}
use Rattle.ra_draws.specs.Lots.{budget_of}
use Rattle.ra_journal.specs.Entries.{worker_count, budget, proposal_count}
use Rattle.ra_journal.proofs.RoomLemmas.{budgets_few, proposals_few}
use Rattle.ra_journal.proofs.journal.proposals.Goals as goal

pub loop-w-init : goal.loop-w-init
loop-w-init c = sym (total_none (budget c.args.lots.now))

pub overflow_add-number : goal.overflow_add-number
unfolding worker_count budget budget_of
overflow_add-number c =
    let own = ap (λ l. l.budget) c.lot.ensures in
    let few = budgets_few c.args.lots.now c.loop-w.w (omega (arith, c.len-w-end.ensures.value)) in
    omega (arith, own, few, c.loop-w.invariant)

pub loop-w-preserved : goal.loop-w-preserved
unfolding budget budget_of
loop-w-preserved c =
    let own = ap (λ l. l.budget) c.lot.ensures in
    omega (arith, own, c.loop-w.invariant, total_more c.loop-w.w (budget c.args.lots.now))

pub returns-clause-value : goal.returns-clause-value
unfolding proposal_count worker_count
returns-clause-value c =
    c.loop-w.invariant ∙ ap (λ n. total n (budget c.args.lots.now)) (omega (arith, c.len-w-end.ensures.value))

pub returns-clause-few : goal.returns-clause-few
unfolding proposal_count worker_count
returns-clause-few c =
    let all = ap (λ n. total n (budget c.args.lots.now))
    (let e : c.loop-w.w ≡ worker_count c.args.lots.now = omega (arith, c.len-w-end.ensures.value) in e) in
    omega (arith, proposals_few c.args.lots.now, c.loop-w.invariant, all)
