-- The ends that are left, and after them those that are entered.
use Rattle.std.proofs.Common.{arith}
use Rattle.ra_moves.specs.Values.{end_count}
use Rattle.ra_weigh.proofs.StepLemmas.{step_from, step_to}
use Rattle.ra_weigh.proofs.LocationLemmas.{label_from, label_to}
use Rattle.ra_weigh.proofs.trial.Trial.end_label.Goals as goal

pub location-requires : goal.location-requires
location-requires c = grind (arith, step_from)

pub returns-then-j-n : goal.returns-then-j-n
returns-then-j-n c = grind (arith, label_from)

pub step-requires-2 : goal.step-requires-2
unfolding end_count
step-requires-2 c = omega (arith, c.requires, c.steps-n.ensures.value, c.if-j-n.false)

pub location-requires-2 : goal.location-requires-2
unfolding end_count
location-requires-2 c = grind (arith, step_to)

pub returns : goal.returns
returns c = grind (arith, label_to)
