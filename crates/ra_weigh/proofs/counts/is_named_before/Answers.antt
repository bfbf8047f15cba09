-- One more step.
use Rattle.std.proofs.Common.{◌≡◌, ◌∙◌, sym, arith}
use Rattle.ra_base.proofs.Named.{is_named_none, is_named_found}
use Rattle.ra_weigh.proofs.MoveLemmas.{unnamed_more}
use Rattle.ra_weigh.proofs.counts.is_named_before.Goals as goal

pub loop-k-init : goal.loop-k-init
loop-k-init c = is_named_none _ c.args.s.0

pub service_in-requires-clause-step : goal.service_in-requires-clause-step
service_in-requires-clause-step c = omega (arith, c.requires.step, c.loop-k-test.true)

pub loop-k-preserved : goal.loop-k-preserved
loop-k-preserved c = grind (arith, unnamed_more)
