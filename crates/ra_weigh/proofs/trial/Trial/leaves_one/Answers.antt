-- The counts say whether one is left, and whether one that needs it is there.
use Rattle.std.proofs.Common.{arith}
use Rattle.ra_model.specs.Numbers.{neighbourhood_of}
use Rattle.ra_weigh.specs.Trials.{tables_of, after_of}
use Rattle.ra_weigh.specs.Nearness.{LeavesOne}
use Rattle.ra_weigh.proofs.HoldLemmas.{told_true, told_false}
use Rattle.ra_weigh.proofs.NearLemmas.{one_left, none_behind, one_behind}
use Rattle.ra_weigh.proofs.trial.Trial.leaves_one.Goals as goal

pub returns-then-left-gt0 : goal.returns-then-left-gt0
returns-then-left-gt0 c = told_true (grind (arith, one_left))

pub returns-then-near-gt0 : goal.returns-then-near-gt0
returns-then-near-gt0 c = told_false (λ leaves. grind (arith, one_behind))

pub returns : goal.returns
returns c = told_true (grind (arith, none_behind))
