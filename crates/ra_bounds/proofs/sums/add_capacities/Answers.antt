-- The row goes on, and stays small.
use Rattle.std.proofs.Common.{arith, rules}
use Rattle.ra_model.specs.Numbers.{resource_count, capacity_of}
use Rattle.ra_bounds.proofs.TotalLemmas.{part_more, part_fits}
use Rattle.ra_bounds.proofs.sums.add_capacities.Goals as goal

pub overflow_add-sums : goal.overflow_add-sums
overflow_add-sums c =
    let i = c.args.inst.now.tables in
    record {
      fits = part_fits (resource_count i) c.args.m.0 c.loop-r.r c.from.result (capacity_of i) c.loop-r.sums
          c.loop-r.invariant (omega arith) (omega (arith, c.args.inst.now.well_formed.few_machines))
          c.args.inst.now.small.capacities (search rules);
    }

pub loop-r-preserved : goal.loop-r-preserved
loop-r-preserved c =
    let i = c.args.inst.now.tables in
    part_more (resource_count i) c.args.m.0 c.loop-r.r c.from.result (capacity_of i) c.loop-r.sums c.loop-r.invariant
    (omega arith) (omega (arith, c.args.inst.now.well_formed.few_resources)) (search rules)
