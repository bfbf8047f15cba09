-- What it has seen has the entry, and each turn brought its place on.
use Rattle.std.proofs.Common.{◌+◌, ◌-◌}
use Rattle.ra_worker.specs.Working.{IsAtWork, IsAtOrAfterOwn, HasTurned}
use Rattle.ra_worker.proofs.worker.Worker.catch_up_past.Given as goal

abbrev pub invariant-behind : goal.invariant-behind
invariant-behind g l = record {
  work : IsAtWork l.shared l.self;
  behind : IsAtOrAfterOwn l.shown l.self;
  turned : HasTurned l.fn.self l.self;
}

abbrev pub decreases-behind : goal.decreases-behind
decreases-behind g l = l.shown + 1 - l.self.replica.place
