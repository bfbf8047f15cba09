use Rattle.ra_model.specs.Numbers.{need_of}
use Rattle.ra_report.specs.Gathering.{AddsText}
use Rattle.ra_model_text.specs.ModelLines.{spaced}
use Rattle.ra_model_text.proofs.lines.add_needs.Given as goal

abbrev pub invariant-loop-k : goal.invariant-loop-k
invariant-loop-k g l =
    AddsText g.O.Sink.taken g.O.Sink.faults l.fn.text l.text (spaced l.k (need_of l.fn.inst.tables l.fn.s.0))
