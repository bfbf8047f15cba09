use Rattle.ra_model.specs.Numbers.{service_count}
use Rattle.ra_model_text.specs.ModelTexts.{service_text}
use Rattle.ra_report.specs.Gathering.{AddsText}
use Rattle.ra_model_text.specs.ModelLines.{group_to}
use Rattle.ra_model_text.proofs.model.add_services.Given as goal

abbrev pub invariant-loop-s : goal.invariant-loop-s
invariant-loop-s g l =
    AddsText g.O.Sink.taken g.O.Sink.faults l.fn.text l.text
    (group_to (service_count l.inst.tables) l.s (service_text l.inst.tables))
