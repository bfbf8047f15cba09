-- The lines of the tries so far.
use Rattle.ra_report.specs.Gathering.{AddsText}
use Rattle.ra_report.specs.RepairTexts.{tries_text}
use Rattle.ra_report.proofs.repair.add_tries.Given as goal

abbrev pub invariant-loop-place : goal.invariant-loop-place
invariant-loop-place g l =
    AddsText g.O.Sink.taken g.O.Sink.faults l.initial.text l.text (tries_text l.repair.tries.items l.place)
