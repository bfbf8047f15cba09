use Rattle.std.proofs.Common.{take}
use Rattle.ra_report.specs.Gathering.{AddsText}
use Rattle.ra_report.specs.Texts.{machines_text}
use Rattle.ra_report.proofs.texts.add_machines.Given as goal

abbrev pub invariant-loop-machine : goal.invariant-loop-machine
invariant-loop-machine g l =
    AddsText g.O.Sink.taken g.O.Sink.faults l.initial.text l.text (machines_text (take l.machine-index l.machines))
