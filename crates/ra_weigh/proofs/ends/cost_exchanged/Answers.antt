-- The row is that of the assignment after the exchange.
use Rattle.std.proofs.Common.{◌≡◌, length, arith}
use Rattle.ra_model.specs.Numbers.{resource_count}
use Rattle.ra_moves.specs.Replacing.{applied}
use Rattle.ra_weigh.proofs.RowUse.{required_from}
use Rattle.ra_weigh.proofs.ExchangeLaws.{step_within, enough_used, row_exchanged}
use Rattle.ra_weigh.proofs.ends.cost_exchanged.Goals as goal

pub exchange_row-requires-clause-enough : goal.exchange_row-requires-clause-enough
exchange_row-requires-clause-enough c r inside =
    let i = c.args.world.now.tables in
    let within = step_within c.args.mv.now.steps c.args.m.0 c.args.comes c.args.goes c.requires.exchanged in
    let width = rw c.instance-inst.ensures.value at c.resources-width.ensures in
    let many : length c.usage_row-used.result.now ≡ resource_count i =
    rw c.rows.ensures.instance at c.usage_row-used.ensures.one_each in
    enough_used r c.usage_row-used.result.now
    c.required_row-come.result.now c.required_row-gone.result.now c.requires.moves c.requires.exchanged many
    (rw c.rows.ensures.instance at (c.usage_row-used.ensures.values c.args.world.now.here c.rows.ensures.stand))
    (required_from i c.args.comes _ _ c.requires.required within.0 width
    c.required_row-come.ensures.each)
    (required_from i c.args.goes _ _ c.requires.required within.1 width
    c.required_row-gone.ensures.each) inside

pub returns-clause-value : goal.returns-clause-value
returns-clause-value c =
    let i = c.args.world.now.tables in
    let a = c.args.world.now.here in
    let steps = c.args.mv.now.steps in
    let within = step_within steps c.args.m.0 c.args.comes c.args.goes c.requires.exchanged in
    let width = rw c.instance-inst.ensures.value at c.resources-width.ensures in
    let after = row_exchanged c.usage_row-used.result.now
    c.exchange_row.new.row c.required_row-come.result.now c.required_row-gone.result.now c.requires.moves
    c.requires.exchanged (rw c.rows.ensures.instance at c.usage_row-used.ensures.one_each)
    (rw c.rows.ensures.instance at (c.usage_row-used.ensures.values a c.rows.ensures.stand))
    (required_from i c.args.comes _ _ c.requires.required within.0 width
    c.required_row-come.ensures.each)
    (required_from i c.args.goes _ _ c.requires.required within.1 width
    c.required_row-gone.ensures.each) c.exchange_row.ensures in
    let cost = rw c.instance-inst.ensures.value at c.cost_of_row.ensures.value in cost (applied a steps) after
