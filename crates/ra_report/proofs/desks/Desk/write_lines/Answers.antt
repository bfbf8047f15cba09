use Rattle.std.proofs.Common.{◌≡◌, ◌+◌, ◌++◌, length, ap, ◌∙◌, arith, length-append}
use Rattle.ra_journal.specs.Entries.{entry_at}
use Rattle.ra_report.specs.JournalTexts.{entry_line}
use Rattle.ra_report.proofs.ShareLaws.{line_more}
use Rattle.ra_report.proofs.desks.Desk.write_lines.Goals as goal

-- one line more
pub loop-place-preserved : goal.loop-place-preserved
loop-place-preserved c =
    let h = c.args.entries.now.items in
    let place = c.loop-place.place in
    let before = c.loop-place.self-inside.text.items in
    let line = entry_line place (entry_at h place) in
    let added : c.extend_from_slice.new.self.items ≡ before ++ line =
    rw (c.as_slice.ensures, c.write_line.ensures, c.get-entry.ensures) at c.extend_from_slice.ensures.items in
    let long : length c.extend_from_slice.new.self.items ≡ length before + length line =
    ap length added ∙ length-append before line in
    let short = rw c.get-entry.ensures at c.entry_is_short.ensures in
    record {
      room = c.extend_from_slice.ensures.room ∙ c.loop-place.invariant.room;
      short = omega (arith, long, short, c.loop-place.invariant.short);
      lines = rw added (line_more h c.args.start place before c.loop-place.invariant.lines);
    }
