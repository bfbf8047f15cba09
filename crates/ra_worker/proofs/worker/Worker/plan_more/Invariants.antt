-- The plans so far are made ahead.
use Rattle.std.proofs.Common.{◌≡◌, ◌+◌}
use Rattle.ra_worker.specs.Ahead.{AreAhead}
use Rattle.ra_worker.proofs.worker.Worker.plan_more.Given as goal

abbrev pub invariant-loop-j : goal.invariant-loop-j
invariant-loop-j l = record {
  made : l.ahead.made ≡ l.j;
  at : l.ahead.at ≡ l.fn.ahead.at;
  ahead : AreAhead l.self.replica (l.self.replica.next + 1) l.ahead;
}
