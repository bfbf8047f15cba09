use Rattle.std.proofs.Common.{sym}
use Rattle.ra_report.specs.JournalTexts.{entries_text}
use Rattle.ra_report.proofs.GatheringLemmas.{adds_none}
use Rattle.ra_report.proofs.JournalTexts.{adds_line}
use Rattle.ra_report.proofs.journal.add_entries.Goals as goal

pub loop-place-init : goal.loop-place-init
unfolding entries_text
loop-place-init g c = adds_none g.O.Sink.taken g.O.Sink.faults c.args.text.now

pub loop-place-preserved : goal.loop-place-preserved
loop-place-preserved g c =
    adds_line g.O.Sink.taken g.O.Sink.faults c.args.entries.now.items c.loop-place.place c.args.text.now
    c.loop-place.text c.add_line.new.text c.loop-place.invariant (rw (sym c.get-entry.ensures) c.add_line.ensures)
