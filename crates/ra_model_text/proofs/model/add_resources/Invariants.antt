use Rattle.ra_model.specs.Numbers.{resource_count}
use Rattle.ra_model_text.specs.ModelTexts.{resource_text}
use Rattle.ra_report.specs.Gathering.{AddsText}
use Rattle.ra_model_text.specs.ModelLines.{group_to}
use Rattle.ra_model_text.proofs.model.add_resources.Given as goal

abbrev pub invariant-loop-r : goal.invariant-loop-r
invariant-loop-r g l =
    AddsText g.O.Sink.taken g.O.Sink.faults l.fn.text l.text
    (group_to (resource_count l.inst.tables) l.r (resource_text l.inst.tables))
