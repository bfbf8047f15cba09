-- Two processes of a service are on one machine only if one of them enters it.
use Rattle.std.proofs.Common.{◌<◌, length, refl, arith}
use Rattle.std.proofs.lemmas.Bool.{both_ways}
use Rattle.ra_moves.specs.Steps.{to_in}
use Rattle.ra_moves.specs.Touched.{service_in}
use Rattle.ra_weigh.specs.Trials.{tables_of, steps_of}
use Rattle.ra_weigh.proofs.StepLemmas.{service_within}
use Rattle.ra_weigh.proofs.HoldLemmas.{conflict_start, conflict_more, conflict_all, conflict_nowhere, told_true, told_false}
use Rattle.ra_weigh.proofs.trial.Trial.keeps_apart.Goals as goal

pub loop-j-init : goal.loop-j-init
loop-j-init c = conflict_start _ _ _

pub enters_apart-requires : goal.enters_apart-requires
enters_apart-requires c = omega (arith, c.loop-j-test.true, c.steps-j-end.ensures.value)

pub returns-then-not-enters_apart : goal.returns-then-not-enters_apart
returns-then-not-enters_apart c = told_false (λ none. grind (arith, conflict_nowhere, service_within))

pub loop-j-preserved : goal.loop-j-preserved
loop-j-preserved c = grind (arith, conflict_more)

pub returns : goal.returns
returns c = told_true (grind (arith, conflict_all))
