-- The counts begin as zeros, and each process is counted for its service.
use Rattle.std.proofs.lemmas.Grind.{common_steps}
use Rattle.std.proofs.Common.{◌≡◌, length, arith}
use Rattle.std.proofs.lemmas.List.{length-replicate}
use Rattle.ra_check.proofs.MovedLaws.{moved_start, moved_next}
use Rattle.ra_edit.proofs.MovedLaws.{moved_under, moved_counted}
use Rattle.ra_edit.proofs.moved.moved_counts.Goals as goal

pub loop-p-init : goal.loop-p-init
loop-p-init c = grind (arith, common_steps, moved_start, length-replicate)

pub count_moved-requires-clause-below : goal.count_moved-requires-clause-below
count_moved-requires-clause-below c = grind (arith, common_steps, moved_under)

pub count_moved-requires-clause-few : goal.count_moved-requires-clause-few
count_moved-requires-clause-few c = omega (arith, c.loop-p.invariant.limit, c.args.inst.now.well_formed.few_processes)

pub loop-p-preserved : goal.loop-p-preserved
loop-p-preserved c = grind (arith, common_steps, moved_next)

pub returns : goal.returns
returns c =
    let l = c.args.lists.now in
    let all : c.loop-p.p ≡ length l.rows.items =
    omega (arith, c.loop-p-test.false, c.loop-p.auto.p-end, c.processes-p-end.ensures.value) in
    moved_counted (rw all at c.loop-p.invariant.counted) c.loop-p.invariant.slots
