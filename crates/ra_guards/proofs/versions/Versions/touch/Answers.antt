use Rattle.std.proofs.Common.{◌<◌, length, arith}
use Rattle.ra_guards.proofs.KeptLemmas.{touched_has, touched_more}
use Rattle.ra_guards.proofs.versions.Versions.touch.Goals as goal

pub set-requires : goal.set-requires
set-requires c =
    let within : c.loop-k.k < length c.args.writes.now = omega (arith, c.loop-k-test.true, c.len-k-end.ensures.value) in
    touched_has c.args.self.now c.loop-k.self c.args.writes.now c.loop-k.k c.args.version c.guard.result c.requires
    c.loop-k.invariant within c.guard.ensures

pub loop-k-preserved : goal.loop-k-preserved
loop-k-preserved c =
    let within : c.loop-k.k < length c.args.writes.now = omega (arith, c.loop-k-test.true, c.len-k-end.ensures.value) in
    touched_more c.args.self.now c.loop-k.self c.set.new.self c.args.writes.now c.loop-k.k c.guard.result c.args.version
    c.loop-k.invariant within c.guard.ensures c.set.ensures
