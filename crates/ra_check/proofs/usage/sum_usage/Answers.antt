-- The table begins as zeros, and each process adds its row.
use Rattle.std.proofs.Common.{◌≤◌, arith}
use Rattle.std.proofs.lemmas.List.{length-replicate}
use Rattle.ra_model.specs.Numbers.{resource_count}
use Rattle.ra_model.specs.Usage.{use_share}
use Rattle.ra_check.proofs.TableLaws.{tally_start, tally_next, tally_below, below_grows, use_share_small}
use Rattle.ra_check.proofs.usage.sum_usage.Goals as goal

pub loop-p-init : goal.loop-p-init
loop-p-init g c = record {
  sums = tally_start _ _ _ _ _ c.fill.ensures;
  grid = grind (arith, length-replicate, c.fill.ensures, c.len-cells.ensures.value);
}

pub add_row-requires-clause-below : goal.add_row-requires-clause-below
add_row-requires-clause-below g c =
    let i = c.args.inst.now.tables in
    let few : c.loop-p.p ≤ 50000 = omega (arith, c.args.inst.now.well_formed.few_processes) in
    below_grows _ _
    (tally_below (resource_count i) c.loop-p.p (use_share i) c.args.a.now.items c.loop-p.table.items
    (use_share_small i c.args.inst.now.small) few c.loop-p.invariant.sums)

pub loop-p-preserved : goal.loop-p-preserved
loop-p-preserved g c = record {
  sums = tally_next _ c.loop-p.p _ _ _ _ _ c.machine_of-at.ensures c.loop-p.invariant.sums c.add_row.ensures.adds;
  grid = omega arith;
}
