-- The processes so far are stamped.
use Rattle.ra_pins.specs.Marks.{IsStampSet, is_seat}
use Rattle.ra_pins.proofs.marks.stamp.Given as goal

abbrev pub invariant-loop-k : goal.invariant-loop-k
invariant-loop-k l =
    IsStampSet (is_seat l.a0.items l.flags.items l.processes) l.k l.stamp l.initial.marks.items l.marks.items
