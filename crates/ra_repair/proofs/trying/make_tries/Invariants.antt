-- The tries so far, and the words that were handed out for them.
use Rattle.std.proofs.Common.{◌≡◌, length}
use Rattle.ra_repair.specs.Keeping.{KeepsPenalty}
use Rattle.ra_repair.specs.Runs.{repaired_by}
use Rattle.ra_repair.proofs.trying.make_tries.Given as goal

abbrev pub invariant-loop-k : goal.invariant-loop-k
invariant-loop-k g l = record {
  keeps : KeepsPenalty l.kept l.inst.tables l.start.items;
  run : (record {
    assignment = l.kept.assignment.items;
    tries = l.tries.items;
  }) ≡ repaired_by l.inst.tables l.start.items l.lot l.k;
  number : length l.tries.items ≡ l.k;
  room : l.tries.room ≡ l.fn.tries.room;
  lot : l.draws.lot ≡ l.lot;
  made : l.draws.made ≡ l.k;
}
