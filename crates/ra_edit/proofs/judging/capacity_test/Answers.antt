-- The use is above the capacity, or within it.
use Rattle.std.proofs.Common.{arith}
use Rattle.ra_edit.proofs.TestLaws.{capacity_over, capacity_within}
use Rattle.ra_edit.proofs.judging.capacity_test.Goals as goal

pub returns-then-from-used : goal.returns-then-from-used
returns-then-from-used c = λ e same is. capacity_over e c.args.m.0 c.args.r.0 c.args.used c.capacity-cap.result is
    (cc (c.capacity-cap.ensures)) (omega (arith, c.if-from-used.true, c.from.ensures))

pub returns-else-from-used : goal.returns-else-from-used
returns-else-from-used c = λ e same is. capacity_within e c.args.m.0 c.args.r.0 c.args.used c.capacity-cap.result is
    (cc (c.capacity-cap.ensures)) (omega (arith, c.if-from-used.false, c.from.ensures))
