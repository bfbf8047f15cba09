use Rattle.std.proofs.Common.{◌+◌, arith}
use Rattle.ra_worker.proofs.AheadLemmas.{ahead_added}
use Rattle.ra_worker.proofs.worker.Worker.plan_more.Goals as goal

pub returns-then-not-refused-clause-ahead : goal.returns-then-not-refused-clause-ahead
returns-then-not-refused-clause-ahead c =
    ahead_added c.args.self.now.replica _ (c.next-first.result + 1 + c.loop-j.j) c.loop-j.ahead c.add.new.self
    c.plan_at-plan.result c.loop-j.invariant.ahead c.add.ensures
    (omega (arith, c.loop-j.invariant.made, c.loop-j-test.true, c.requires.few))
    (omega (arith, c.loop-j.invariant.made, c.next-first.ensures))
    (omega (arith, c.loop-j-test.true, c.requires.left, c.next-first.ensures)) c.plan_at-plan.ensures
