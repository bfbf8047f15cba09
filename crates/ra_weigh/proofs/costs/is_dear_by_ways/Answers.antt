-- An exchange whose machines would cost nothing after it costs no less than this.
use Rattle.std.proofs.Common.{arith}
use Rattle.ra_weigh.proofs.MoveLemmas.{from_known, to_known}
use Rattle.ra_weigh.proofs.ExchangeLaws.{cost_exchanged}
use Rattle.ra_weigh.proofs.CostLaws.{total_few, service_few, cost_least}
use Rattle.ra_weigh.proofs.costs.is_dear_by_ways.Goals as goal

pub step-step-requires : goal.step-step-requires
step-step-requires c = omega (arith, (c.is_exchange.ensures c.if-not-is_exchange.false).two)

pub cost_now-requires : goal.cost_now-requires
cost_now-requires c = grind (arith, from_known)

pub cost_now-requires-2 : goal.cost_now-requires-2
cost_now-requires-2 c = grind (arith, to_known)

pub overflow_add-taken : goal.overflow_add-taken
overflow_add-taken c = grind (arith, service_few)

pub overflow_add-taken-2 : goal.overflow_add-taken-2
overflow_add-taken-2 c = grind (arith, service_few)

pub overflow_add-parts : goal.overflow_add-parts
overflow_add-parts c = grind (arith, total_few)

pub is_high-requires : goal.is_high-requires
is_high-requires c = grind (arith, total_few)

pub returns : goal.returns
returns c = λ dear.
    cost_least c.parts-parts.ensures.sound c.parts-parts.ensures.value c.requires.moves
    (cost_exchanged _ (c.is_exchange.ensures c.if-not-is_exchange.false) c.step-step.ensures
    c.cost_now.ensures.value c.cost_now-2.ensures.value)
    c.requires.ways 0 c.args.ways.now.added c.args.bound (omega arith) (omega arith)
    (omega (arith, c.is_high.ensures.0 dear))
