-- The lines of the edits so far.
use Rattle.ra_report.specs.Gathering.{AddsText}
use Rattle.ra_jobs.specs.EditedTexts.{edits_text}
use Rattle.ra_jobs.proofs.edited.add_edits.Given as goal

abbrev pub invariant-loop-place : goal.invariant-loop-place
invariant-loop-place g l =
    AddsText g.O.Sink.taken g.O.Sink.faults l.initial.text l.text (edits_text l.replies.items l.place)
