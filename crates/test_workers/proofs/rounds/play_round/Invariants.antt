-- The first workers have an entry for this round too.
use Rattle.std.proofs.Common.{ℕ, ◌+◌}
use Rattle.test_workers.specs.Rounds.{HaveMade, HaveAllMade, PlaysOn}
use Rattle.test_workers.proofs.rounds.play_round.Given as goal

abbrev pub invariant-loop-w : goal.invariant-loop-w
invariant-loop-w l = record {
  all : (r : ℕ) → HaveAllMade l.fn.journal r → HaveAllMade l.journal r;
  first : (r : ℕ) → HaveAllMade l.fn.journal r → HaveMade l.journal.lots l.journal.entries l.w (r + 1);
  played : PlaysOn l.fn.journal l.journal l.fn.replicas.items l.replicas.items;
}
