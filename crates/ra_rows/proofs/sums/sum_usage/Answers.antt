-- The table begins as zeros, and each process adds its row.
use Rattle.std.proofs.Common.{◌≤◌, arith}
use Rattle.std.proofs.lemmas.List.{length-replicate}
use Rattle.ra_model.specs.Numbers.{process_count}
use Rattle.ra_rows.proofs.ChangeLemmas.{tally_start, tally_next, tally_below}
use Rattle.ra_rows.proofs.sums.sum_usage.Goals as goal

pub loop-p-init : goal.loop-p-init
loop-p-init g c = record {
  sums = tally_start _ _ _ _ _ c.requires.zeros;
  grid = grind (arith, length-replicate, c.requires.zeros);
}

pub add_row-requires-clause-below : goal.add_row-requires-clause-below
add_row-requires-clause-below g c =
    let few : c.loop-p.p ≤ process_count c.args.inst.now.tables =
    omega (arith, c.loop-p-test.true, c.processes-p-end.ensures) in
    tally_below c.args.inst.now.tables c.args.a.now.items c.loop-p.p c.loop-p.table.items c.args.inst.now.well_formed
    c.args.inst.now.small few c.loop-p.invariant.sums

pub loop-p-preserved : goal.loop-p-preserved
loop-p-preserved g c = record {
  sums = tally_next _ c.loop-p.p _ _ _ _ _ c.machine_of-at.ensures c.loop-p.invariant.sums c.add_row.ensures;
  grid = omega (arith, c.add_row.ensures.same_length, c.loop-p.invariant.grid);
}
