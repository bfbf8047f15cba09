-- One step after another.
use Rattle.std.proofs.Common.{◌≡◌, None, sym, refl, ap, arith}
use Rattle.std.proofs.lemmas.Bool.{both_ways}
use Rattle.ra_model.specs.Numbers.{neighbourhood_of}
use Rattle.ra_model.specs.Broken.{broken_dependency}
use Rattle.ra_weigh.specs.Trials.{tables_of, steps_of, after_of}
use Rattle.ra_weigh.proofs.StepLemmas.{step_process, service_there, service_read, to_read, from_read, step_to, step_from}
use Rattle.ra_weigh.proofs.LandLemmas.{lands_read}
use Rattle.ra_weigh.proofs.HoldLemmas.{told_true, told_false}
use Rattle.ra_weigh.proofs.NearLemmas.{keep_start, keep_next, near_all, needs_found, none_left}
use Rattle.ra_weigh.proofs.trial.Trial.keeps_near.Goals as goal

pub service_of-s-requires : goal.service_of-s-requires
service_of-s-requires c = grind (arith, step_process)

pub finds_needs-requires-clause-service : goal.finds_needs-requires-clause-service
finds_needs-requires-clause-service c = grind (arith, service_there, step_process)

pub finds_needs-requires-clause-to : goal.finds_needs-requires-clause-to
finds_needs-requires-clause-to c = grind (arith, step_to)

pub leaves_none_alone-requires-clause-service : goal.leaves_none_alone-requires-clause-service
leaves_none_alone-requires-clause-service c = grind (arith, service_there, step_process)

pub leaves_none_alone-requires-clause-from : goal.leaves_none_alone-requires-clause-from
leaves_none_alone-requires-clause-from c = grind (arith, step_from)

pub loop-j-init : goal.loop-j-init
loop-j-init c = keep_start _ _ _

pub returns-then-not-finds_needs : goal.returns-then-not-finds_needs
returns-then-not-finds_needs c = told_false (λ none. grind (arith, needs_found, service_there, step_process, lands_read))

pub returns-then-not-leaves_none_alone : goal.returns-then-not-leaves_none_alone
returns-then-not-leaves_none_alone c = told_false (λ none. grind (arith, none_left))

pub loop-j-preserved : goal.loop-j-preserved
loop-j-preserved c = grind (arith, keep_next, service_read, to_read, from_read)

pub returns : goal.returns
returns c = told_true (grind (arith, near_all))
