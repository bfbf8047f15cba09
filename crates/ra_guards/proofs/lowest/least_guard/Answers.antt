use Rattle.std.proofs.Common.{◌≡◌, length, arith}
use Rattle.ra_guards.proofs.LowestLemmas.{written_all}
use Rattle.ra_guards.proofs.lowest.least_guard.Goals as goal

pub returns : goal.returns
returns c =
    let every : c.loop-j.j ≡ length c.args.mv.now.steps =
    omega (arith, c.loop-j-test.false, c.steps-j-end.ensures.value, c.loop-j.auto.j-end) in
    written_all c.args.inst.now.tables _ c.args.q c.args.mv.now.steps c.loop-j.j
    c.least_read-least.result c.loop-j.least c.least_read-least.ensures every c.loop-j.invariant
