use Rattle.std.proofs.Common.{◌+◌, ◌-◌, arith}
use Rattle.ra_shift.proofs.RingLemmas.{part_inside}
use Rattle.ra_shift.proofs.rings.ring_part.Goals as goal

pub returns-then-ring-start-ge-WINDOW : goal.returns-then-ring-start-ge-WINDOW
returns-then-ring-start-ge-WINDOW c =
    part_inside c.args.ring.now c.args.start 64 (c.args.start + 64 - c.args.start) (omega arith) (omega arith)
