use Rattle.std.proofs.Common.{◌+◌, ◌<◌, ◌∙◌, length, arith}
use Rattle.ra_check.specs.Stamps.{seat_of}
use Rattle.ra_check.proofs.StampLemmas.{stamped_more, below_set}
use Rattle.ra_check.proofs.ConflictLemmas.{crowd_more}
use Rattle.ra_check.proofs.conflict.crowded.Goals as goal

pub loop-k-preserved : goal.loop-k-preserved
loop-k-preserved c =
    let size = length c.args.marks.now.items in
    let e = seat_of c.args.a.now.items c.args.processes.now in
    let within : c.seat-machine.result.0 < length c.args.marks.now.items =
    omega (arith, c.seat-machine.ensures, c.requires.seated.within c.loop-k.k c.loop-k-test.true) in
    record {
      stamped = rw c.stamp_place-again.ensures.marks
          (stamped_more c.loop-k.marks.items size c.args.stamp c.loop-k.k c.seat-machine.result.0 e
          c.loop-k.invariant.stamped c.loop-k.invariant.below.one_each within c.seat-machine.ensures);
      below = rw c.stamp_place-again.ensures.marks
          (below_set c.loop-k.marks.items size (c.args.stamp + 1) c.seat-machine.result.0 c.args.stamp
          c.loop-k.invariant.below (omega arith));
      least = c.lower-least.ensures
          ∙ crowd_more c.loop-k.marks.items size c.args.stamp c.loop-k.k e c.seat-machine.result
          c.stamp_place-again.result c.loop-k.least c.loop-k.invariant.stamped c.seat-machine.ensures within
          c.stamp_place-again.ensures.before c.loop-k.invariant.least;
    }
