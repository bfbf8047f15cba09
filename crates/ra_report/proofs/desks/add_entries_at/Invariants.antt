use Rattle.std.proofs.Common.{◌≤◌, ◌-◌, length}
use Rattle.ra_report.specs.Gathering.{AddsText}
use Rattle.ra_report.specs.JournalTexts.{entries_text}
use Rattle.ra_report.proofs.desks.add_entries_at.Given as goal

abbrev pub invariant-loop-next : goal.invariant-loop-next
invariant-loop-next g l = record {
  within : l.next ≤ length l.entries.items;
  added : AddsText g.O.Sink.taken g.O.Sink.faults l.initial.text l.text (entries_text l.entries.items l.next);
}

abbrev pub decreases-loop-next : goal.decreases-loop-next
decreases-loop-next g l = length l.entries.items - l.next
