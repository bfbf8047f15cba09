-- The list begins as zeros, and each process is counted for its service.
use Rattle.std.proofs.Common.{◌<◌, arith}
use Rattle.std.proofs.lemmas.List.{length-replicate}
use Rattle.ra_check.proofs.MovedLaws.{moved_start, moved_next, moved_below}
use Rattle.ra_check.proofs.moved.count_moved.Goals as goal

pub loop-p-init : goal.loop-p-init
loop-p-init c = record {
  counted = moved_start _ _ _ _ _ c.fill.ensures;
  slots = grind (arith, length-replicate, c.fill.ensures, c.len-services.ensures.value);
}

pub count_process-requires-clause-below : goal.count_process-requires-clause-below
count_process-requires-clause-below c =
    let few : c.loop-p.p < 50000 = omega (arith, c.args.inst.now.well_formed.few_processes) in
    moved_below few
    c.loop-p.invariant.counted

pub loop-p-preserved : goal.loop-p-preserved
loop-p-preserved c = record {
  counted = moved_next _ _ _ c.loop-p.p _ _ c.loop-p.invariant.counted c.count_process.ensures.counted;
  slots = omega arith;
}
