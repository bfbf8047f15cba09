-- As many equal items as rounds so far, in the room that was there.
use Rattle.std.proofs.Common.{◌≡◌, ◌≤◌, replicate}
use Rattle.ra_check.proofs.scratch.fill.Given as goal

abbrev pub invariant-loop : goal.invariant-loop
invariant-loop g l = record {
  items : l.table.items ≡ replicate l.counter l.item;
  room : l.table.room ≡ l.initial.table.room;
  within : l.count ≤ l.initial.table.room;
}
