use Rattle.ra_model.specs.Numbers.{balance_count}
use Rattle.ra_model_text.specs.ModelTexts.{balance_text}
use Rattle.ra_report.specs.Gathering.{AddsText}
use Rattle.ra_model_text.specs.ModelLines.{group_to}
use Rattle.ra_model_text.proofs.model.add_balances.Given as goal

abbrev pub invariant-loop-b : goal.invariant-loop-b
invariant-loop-b g l =
    AddsText g.O.Sink.taken g.O.Sink.faults l.fn.text l.text
    (group_to (balance_count l.inst.tables) l.b (balance_text l.inst.tables))
