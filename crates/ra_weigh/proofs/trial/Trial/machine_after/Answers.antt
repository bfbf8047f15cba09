-- Where its step leads, or where it was.
use Rattle.std.proofs.Common.{◌≡◌, length, arith}
use Rattle.ra_base.proofs.Named.{is_named_none}
use Rattle.ra_model.proofs.TallyLemmas.{machine_at_read}
use Rattle.ra_weigh.specs.Trials.{steps_of}
use Rattle.ra_weigh.proofs.StepLemmas.{step_to, process_read, unnamed_more}
use Rattle.ra_weigh.proofs.LandLemmas.{lands_read, stays_read}
use Rattle.ra_weigh.proofs.trial.Trial.machine_after.Goals as goal

pub loop-j-init : goal.loop-j-init
loop-j-init c = is_named_none _ c.args.p.0

pub returns-then-step-p-clause-machine : goal.returns-then-step-p-clause-machine
returns-then-step-p-clause-machine c = grind (arith, lands_read)

pub returns-then-step-p-clause-there : goal.returns-then-step-p-clause-there
returns-then-step-p-clause-there c = grind (arith, step_to)

pub loop-j-preserved : goal.loop-j-preserved
loop-j-preserved c = grind (arith, unnamed_more, process_read)

pub get-requires : goal.get-requires
get-requires c = omega (arith, c.requires, c.args.self.now.moves.fits.one_each)

pub returns-clause-machine : goal.returns-clause-machine
returns-clause-machine c = grind (arith, stays_read, machine_at_read)

pub returns-clause-there : goal.returns-clause-there
returns-clause-there c = grind (arith, machine_at_read)
