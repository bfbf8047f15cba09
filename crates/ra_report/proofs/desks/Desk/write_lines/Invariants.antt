use Rattle.std.proofs.Common.{◌≡◌, ◌+◌, ◌*◌, ◌≤◌, length}
use Rattle.ra_report.specs.Shares.{AreLinesOfEntries}
use Rattle.ra_report.proofs.desks.Desk.write_lines.Given as goal

abbrev pub invariant-loop-place : goal.invariant-loop-place
invariant-loop-place l = record {
  room : l.self-inside.text.room ≡ 1200128;
  short : length l.self-inside.text.items + 293 * l.start ≤ 293 * l.place;
  lines : AreLinesOfEntries l.entries.items l.start l.place l.self-inside.text.items;
}
