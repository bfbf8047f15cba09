-- One more end.
use Rattle.std.proofs.Common.{◌≡◌, ◌∙◌, sym, arith}
use Rattle.ra_base.proofs.Named.{is_named_none, is_named_found}
use Rattle.ra_weigh.proofs.MoveLemmas.{unnamed_more}
use Rattle.ra_weigh.proofs.ends.is_named_before.Goals as goal

pub loop-k-init : goal.loop-k-init
loop-k-init c = is_named_none _ c.args.m.0

pub end_of-requires : goal.end_of-requires
end_of-requires c = omega (arith, c.requires, c.loop-k-test.true)

pub loop-k-preserved : goal.loop-k-preserved
loop-k-preserved c = grind (arith, unnamed_more)
