-- What a move can break is broken where a step leads.
use Rattle.std.proofs.Common.{◌<◌, length, refl, sym, arith}
use Rattle.ra_model.specs.Numbers.{process_count}
use Rattle.ra_model.specs.Broken.{broken_closed}
use Rattle.ra_weigh.specs.Trials.{tables_of, steps_of}
use Rattle.ra_weigh.proofs.StepLemmas.{process_read, step_process, step_to}
use Rattle.ra_weigh.proofs.LandLemmas.{lands_read}
use Rattle.ra_weigh.proofs.HoldLemmas.{none_start, none_more, none_all, told_true, told_false, found_there}
use Rattle.ra_weigh.proofs.trial.Trial.keeps_closed.Goals as goal

pub closed_there-requires : goal.closed_there-requires
closed_there-requires c = grind (arith, step_process, lands_read, step_to)

pub loop-j-init : goal.loop-j-init
loop-j-init c = grind (arith, none_start)

pub returns-in-Some : goal.returns-in-Some
unfolding broken_closed
returns-in-Some c =
    told_false (found_there (process_count (tables_of c.args.self.now)) c.step-step.result.process.0
    _
    c.in-Some._cause
    (step_process c.args.self.now.moves c.step-step.ensures
    (omega (arith, c.loop-j-test.true, c.steps-j-end.ensures.value))) c.in-Some.ensures)

pub loop-j-preserved : goal.loop-j-preserved
loop-j-preserved c = grind (arith, none_more, process_read)

pub returns : goal.returns
unfolding broken_closed
returns c = told_true (grind (arith, none_all))
