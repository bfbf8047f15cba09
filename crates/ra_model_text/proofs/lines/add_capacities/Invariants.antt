use Rattle.ra_model.specs.Numbers.{capacity_of}
use Rattle.ra_report.specs.Gathering.{AddsText}
use Rattle.ra_model_text.specs.ModelLines.{spaced}
use Rattle.ra_model_text.proofs.lines.add_capacities.Given as goal

abbrev pub invariant-loop-r : goal.invariant-loop-r
invariant-loop-r g l =
    AddsText g.O.Sink.taken g.O.Sink.faults l.fn.text l.text (spaced l.r (capacity_of l.inst.tables l.m.0))
