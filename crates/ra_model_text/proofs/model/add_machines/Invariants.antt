use Rattle.ra_model.specs.Numbers.{machine_count}
use Rattle.ra_model_text.specs.ModelTexts.{machine_text}
use Rattle.ra_report.specs.Gathering.{AddsText}
use Rattle.ra_model_text.specs.ModelLines.{group_to}
use Rattle.ra_model_text.proofs.model.add_machines.Given as goal

abbrev pub invariant-loop-m : goal.invariant-loop-m
invariant-loop-m g l =
    AddsText g.O.Sink.taken g.O.Sink.faults l.fn.text l.text
    (group_to (machine_count l.inst.tables) l.m (machine_text l.inst.tables))
