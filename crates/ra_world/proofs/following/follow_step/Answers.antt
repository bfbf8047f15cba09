-- The parts of the kept assignment are changed by the step.
use Rattle.std.proofs.Common.{◌∙◌, set, arith}
use Rattle.ra_world.proofs.FollowLaws.{load_sum, balance_sum, load_fits, balance_fits, process_fits, machine_fits}
use Rattle.ra_world.proofs.FollowLaws.{process_part, machine_part, all_parts, parts_small, parts_summed, loads_renewed}
use Rattle.ra_world.proofs.FollowLaws.{balances_renewed, keeps_on}
use Rattle.ra_world.proofs.FilterTableLaws.{alike_elsewhere}
use Rattle.ra_world.proofs.StandingLaws.{by_rows, stands_on}
use Rattle.ra_world.proofs.following.follow_step.Goals as goal

pub put-requires-clause-stand : goal.put-requires-clause-stand
put-requires-clause-stand g c = by_rows c.args.kept.now _ _ _ c.requires.keeps.stand

pub put-requires-clause-process : goal.put-requires-clause-process
put-requires-clause-process g c = rw c.requires.keeps.stand.instance c.requires.process

pub put-requires-clause-to : goal.put-requires-clause-to
put-requires-clause-to g c = rw c.requires.keeps.stand.instance c.requires.to

pub renew_loads-load-requires-clause-from : goal.renew_loads-load-requires-clause-from
renew_loads-load-requires-clause-from g c =
    omega (arith, c.requires.at_from, c.requires.keeps.stand.fits.in_range c.args.step.process.0 c.requires.process)

pub renew_loads-load-requires-clause-instance : goal.renew_loads-load-requires-clause-instance
renew_loads-load-requires-clause-instance g c = c.put.ensures.moves.stand.instance ∙ c.requires.keeps.stand.instance

pub renew_loads-load-requires-clause-one_each : goal.renew_loads-load-requires-clause-one_each
renew_loads-load-requires-clause-one_each g c = rw c.put.ensures.moves.loads c.requires.keeps.loads.one_each

pub renew_balances-balance-requires-clause-from : goal.renew_balances-balance-requires-clause-from
renew_balances-balance-requires-clause-from g c =
    omega (arith, c.requires.at_from, c.requires.keeps.stand.fits.in_range c.args.step.process.0 c.requires.process)

pub renew_balances-balance-requires-clause-instance : goal.renew_balances-balance-requires-clause-instance
renew_balances-balance-requires-clause-instance g c = c.put.ensures.moves.stand.instance ∙ c.requires.keeps.stand.instance

pub renew_balances-balance-requires-clause-one_each : goal.renew_balances-balance-requires-clause-one_each
renew_balances-balance-requires-clause-one_each g c = rw c.put.ensures.moves.balances c.requires.keeps.balances.one_each

pub renew_filters-requires-clause-from : goal.renew_filters-requires-clause-from
renew_filters-requires-clause-from g c =
    omega (arith, c.requires.at_from, c.requires.keeps.stand.fits.in_range c.args.step.process.0 c.requires.process)

pub renew_filters-requires-clause-instance : goal.renew_filters-requires-clause-instance
renew_filters-requires-clause-instance g c = c.put.ensures.moves.stand.instance ∙ c.requires.keeps.stand.instance

pub renew_filters-requires-clause-grid : goal.renew_filters-requires-clause-grid
renew_filters-requires-clause-grid g c = rw c.put.ensures.moves.filters c.requires.keeps.filters.many

pub machine_after-machine-requires-clause-from : goal.machine_after-machine-requires-clause-from
machine_after-machine-requires-clause-from g c =
    omega (arith, c.requires.at_from, c.requires.keeps.stand.fits.in_range c.args.step.process.0 c.requires.process)

pub renew_loads-load-requires-clause-sum : goal.renew_loads-load-requires-clause-sum
renew_loads-load-requires-clause-sum g c =
    rw (c.put.ensures.moves.parts, c.put.ensures.moves.loads) (load_sum c.requires.keeps)

pub renew_loads-load-requires-clause-fits : goal.renew_loads-load-requires-clause-fits
renew_loads-load-requires-clause-fits g c =
    rw c.put.ensures.moves.parts (load_fits c.args.inst.now.well_formed c.args.inst.now.small c.requires.keeps)

pub renew_balances-balance-requires-clause-sum : goal.renew_balances-balance-requires-clause-sum
renew_balances-balance-requires-clause-sum g c =
    rw (c.put.ensures.moves.parts, c.put.ensures.moves.balances) (balance_sum c.requires.keeps)

pub renew_balances-balance-requires-clause-fits : goal.renew_balances-balance-requires-clause-fits
renew_balances-balance-requires-clause-fits g c =
    rw c.put.ensures.moves.parts (balance_fits c.args.inst.now.well_formed c.args.inst.now.small c.requires.keeps)

pub process_after-process-requires-clause-fits : goal.process_after-process-requires-clause-fits
process_after-process-requires-clause-fits g c =
    rw c.put.ensures.moves.parts (process_fits c.args.inst.now.well_formed c.args.inst.now.small c.requires.keeps)

pub process_after-process-requires-clause-counted : goal.process_after-process-requires-clause-counted
process_after-process-requires-clause-counted g c =
    rw c.put.ensures.moves.parts
    (process_part c.args.step.process.0 c.args.step.from c.requires.keeps c.requires.process c.requires.at_from)

pub machine_after-machine-requires-clause-fits : goal.machine_after-machine-requires-clause-fits
machine_after-machine-requires-clause-fits g c =
    rw c.put.ensures.moves.parts (machine_fits c.args.inst.now.well_formed c.args.inst.now.small c.requires.keeps)

pub machine_after-machine-requires-clause-counted : goal.machine_after-machine-requires-clause-counted
machine_after-machine-requires-clause-counted g c =
    rw c.put.ensures.moves.parts
    (machine_part c.args.step.process.0 c.args.step.from c.requires.keeps c.requires.process c.requires.at_from)

pub summed-kept-requires : goal.summed-kept-requires
summed-kept-requires g c =
    let kept = c.args.kept.now in
    let i = c.args.inst.now.tables in
    let a0 = c.args.start.now.items in
    let keeps = c.requires.keeps in
    let moves = c.put.ensures.moves in
    let p = c.args.step.process.0 in
    let to = c.args.step.to in
    let b = set kept.assignment.items p to in
    let stand = stands_on kept c.put.new.kept i a0 b keeps.stand moves c.put.ensures.assignment in
    let parts = all_parts p c.args.step.from to _ _ c.args.inst.now.well_formed keeps c.requires.process
    c.requires.at_from c.requires.to
    (rw moves.loads at (c.renew_loads-load.ensures.costs b stand.rows)) (rw moves.loads at c.renew_loads-load.ensures.sum)
    (rw moves.balances at (c.renew_balances-balance.ensures.costs b stand.rows))
    (rw moves.balances at c.renew_balances-balance.ensures.sum)
    (rw moves.parts at c.process_after-process.ensures) (c.service_cost-service.ensures a0 b stand.cells)
    (rw moves.parts at c.machine_after-machine.ensures) in
    parts_small c.args.inst.now.well_formed c.args.inst.now.small parts

pub returns-clause-keeps : goal.returns-clause-keeps
returns-clause-keeps g c =
    let kept = c.args.kept.now in
    let i = c.args.inst.now.tables in
    let a0 = c.args.start.now.items in
    let a = kept.assignment.items in
    let keeps = c.requires.keeps in
    let moves = c.put.ensures.moves in
    let p = c.args.step.process.0 in
    let from = c.args.step.from in
    let to = c.args.step.to in
    let b = set a p to in
    let stand = stands_on kept c.put.new.kept i a0 b keeps.stand moves c.put.ensures.assignment in
    let loads_are = rw moves.loads at (c.renew_loads-load.ensures.costs b stand.rows) in
    let balances_are = rw moves.balances at (c.renew_balances-balance.ensures.costs b stand.rows) in
    let parts = all_parts p from to _ _ c.args.inst.now.well_formed keeps c.requires.process
    c.requires.at_from c.requires.to loads_are (rw moves.loads at c.renew_loads-load.ensures.sum) balances_are
    (rw moves.balances at c.renew_balances-balance.ensures.sum)
    (rw moves.parts at c.process_after-process.ensures)
    (c.service_cost-service.ensures a0 b stand.cells) (rw moves.parts at c.machine_after-machine.ensures) in
    keeps_on c.put.ensures.assignment stand.fits stand.instance stand.start stand.rows stand.cells
    (loads_renewed p from to keeps c.requires.process c.requires.at_from c.requires.to loads_are)
    (balances_renewed p from to c.args.inst.now.well_formed keeps c.requires.process c.requires.at_from
    c.requires.to balances_are)
    (c.renew_filters.ensures a b stand.rows
    (alike_elsewhere i a p from.0 to keeps.stand.fits c.requires.process c.requires.at_from)
    (rw moves.filters keeps.filters))
    (parts_summed _ parts c.summed-kept.ensures)
