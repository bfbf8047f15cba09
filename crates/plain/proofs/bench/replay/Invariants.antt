-- The state so far.
use Rattle.std.proofs.Common.{◌≡◌}
use Rattle.ra_journal.specs.States.{state}
use Rattle.plain.proofs.bench.replay.Given as goal

abbrev pub invariant-loop-j : goal.invariant-loop-j
invariant-loop-j l = record {
  items : l.a.items ≡ state l.a0.items l.entries l.j;
  room : l.a.room ≡ l.fn.a.room;
}
