use Rattle.ra_model.specs.Numbers.{process_count}
use Rattle.ra_model_text.specs.ModelTexts.{process_text}
use Rattle.ra_report.specs.Gathering.{AddsText}
use Rattle.ra_model_text.specs.ModelLines.{group_to}
use Rattle.ra_model_text.proofs.model.add_processes.Given as goal

abbrev pub invariant-loop-p : goal.invariant-loop-p
invariant-loop-p g l =
    AddsText g.O.Sink.taken g.O.Sink.faults l.fn.text l.text
    (group_to (process_count l.inst.tables) l.p (process_text l.inst.tables))
