use Rattle.std.proofs.Common.{◌≡◌}
use Rattle.test_replica.proofs.guides.move_nine.Given as goal

abbrev pub invariant-loop-p : goal.invariant-loop-p
invariant-loop-p l = l.residents.tables ≡ l.fn.residents.tables
