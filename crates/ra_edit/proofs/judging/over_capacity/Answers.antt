-- The transient use is above the capacity, or within it.
use Rattle.std.proofs.lemmas.Grind.{common_steps}
use Rattle.std.proofs.Common.{arith}
use Rattle.ra_edit.proofs.TestLaws.{transient_over, transient_within}
use Rattle.ra_edit.proofs.judging.over_capacity.Goals as goal

pub returns-then-from-used : goal.returns-then-from-used
returns-then-from-used c = λ e same is. grind (arith, common_steps, transient_over)

pub returns-else-from-used : goal.returns-else-from-used
returns-else-from-used c = λ e same is. transient_within e c.args.m.0 c.args.r.0 c.args.used c.capacity-cap.result is
    (cc (c.capacity-cap.ensures)) (omega (arith, c.if-from-used.false, c.from.ensures))
