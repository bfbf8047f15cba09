-- The worker is the same, and has taken at most twice as many turns as its place was brought on. The plans of a round that
-- are left stand.
use Rattle.std.proofs.Common.{◌≡◌, ◌+◌, ◌*◌, ◌<◌, ◌≤◌}
use Rattle.ra_worker.specs.Ahead.{PlansStand}
use Rattle.ra_worker.specs.Working.{MayGoOn}
use Rattle.ra_worker.proofs.running.WorkerLabourDesk.labour.Given as goal

abbrev pub invariant-proposals : goal.invariant-proposals
invariant-proposals g l = record {
  may : MayGoOn l.with.shared.now l.self;
  number : l.self.pass.number ≡ l.fn.self.pass.number;
  turns : l.fn.self.pass.left ≤ l.self.pass.left + 2 * l.self.replica.place;
}

abbrev pub decreases-proposals : goal.decreases-proposals
decreases-proposals g l = l.self.pass.left

abbrev pub invariant-round : goal.invariant-round
invariant-round g l = record {
  may : MayGoOn l.with.shared.now l.self;
  number : l.self.pass.number ≡ l.fn.self.pass.number;
  turns : l.fn.self.pass.left ≤ l.self.pass.left + 2 * l.self.replica.place;
  fewer : l.self.pass.left ≤ l.initial.self.pass.left;
  some : 0 < l.ahead.at → l.self.pass.left < l.initial.self.pass.left;
  stands : l.ahead.at ≤ l.ahead.made → PlansStand l.self.replica l.initial.self.replica.next l.first l.ahead;
}

abbrev pub decreases-round : goal.decreases-round
decreases-round g l = l.self.pass.left
