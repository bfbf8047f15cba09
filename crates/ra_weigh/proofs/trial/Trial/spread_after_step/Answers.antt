-- The service of a step, as it is read.
use Rattle.std.proofs.Common.{ap, sym, ◌∙◌, arith}
use Rattle.ra_model.specs.Broken.{spread_test}
use Rattle.ra_weigh.specs.Trials.{tables_of, steps_of, after_of}
use Rattle.ra_weigh.proofs.StepLemmas.{step_process, service_there, service_read}
use Rattle.ra_weigh.proofs.trial.Trial.spread_after_step.Goals as goal

pub service_of-s-requires : goal.service_of-s-requires
service_of-s-requires c = step_process c.args.self.now.moves c.step-step.ensures c.requires

pub returns-then-stays_spread : goal.returns-then-stays_spread
returns-then-stays_spread c = grind (arith, service_read)

pub spread_test-requires : goal.spread_test-requires
spread_test-requires c = grind (arith, service_there, step_process)

pub returns : goal.returns
returns c = grind (arith, service_read)
