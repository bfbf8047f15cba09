use Rattle.ra_report.specs.Gathering.{AddsText}
use Rattle.ra_report.specs.JournalTexts.{entries_text}
use Rattle.ra_report.proofs.journal.add_entries.Given as goal

abbrev pub invariant-loop-place : goal.invariant-loop-place
invariant-loop-place g l =
    AddsText g.O.Sink.taken g.O.Sink.faults l.initial.text l.text (entries_text l.entries.items l.place)
