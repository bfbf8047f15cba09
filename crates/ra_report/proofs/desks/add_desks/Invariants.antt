use Rattle.std.proofs.Common.{take}
use Rattle.ra_report.specs.Gathering.{AddsText}
use Rattle.ra_report.specs.Pieces.{joined}
use Rattle.ra_report.proofs.desks.add_desks.Given as goal

abbrev pub invariant-loop-desk : goal.invariant-loop-desk
invariant-loop-desk g l =
    AddsText g.O.Sink.taken g.O.Sink.faults l.initial.text l.text (joined (take l.desk-index l.desks))
