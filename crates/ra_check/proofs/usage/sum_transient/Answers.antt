-- The table begins as zeros, and each process adds its one or two rows.
use Rattle.std.proofs.Common.{◌≤◌, arith, sym}
use Rattle.std.proofs.lemmas.List.{length-replicate}
use Rattle.ra_model.specs.Numbers.{resource_count}
use Rattle.ra_model.specs.Usage.{transient_share}
use Rattle.ra_check.proofs.TableLaws.{tally_start, tally_next, tally_below, transient_share_small}
use Rattle.ra_check.proofs.usage.sum_transient.Goals as goal

pub loop-p-init : goal.loop-p-init
loop-p-init g c = record {
  sums = tally_start _ _ _ _ _ c.fill.ensures;
  grid = grind (arith, length-replicate, c.fill.ensures, c.len-cells.ensures.value);
}

pub add_rows-requires-clause-below : goal.add_rows-requires-clause-below
add_rows-requires-clause-below g c =
    let i = c.args.inst.now.tables in
    let few : c.loop-p.p ≤ 50000 = omega (arith, c.args.inst.now.well_formed.few_processes) in
    tally_below (resource_count i) c.loop-p.p (transient_share i c.args.a0.now.items) c.args.a.now.items
    c.loop-p.table.items (transient_share_small i c.args.a0.now.items c.args.inst.now.small) few
    c.loop-p.invariant.sums

pub loop-p-preserved : goal.loop-p-preserved
loop-p-preserved g c = record {
  sums = tally_next _ c.loop-p.p _ _ _ _ _ c.machine_of-at.ensures c.loop-p.invariant.sums
      (c.add_rows.ensures.adds c.args.a0.now.items (sym c.machine_of-from.ensures));
  grid = omega arith;
}
