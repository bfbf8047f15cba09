-- The count says whether one is there.
use Rattle.std.proofs.Common.{arith}
use Rattle.ra_model.specs.Numbers.{neighbourhood_of}
use Rattle.ra_weigh.specs.Trials.{tables_of, after_of}
use Rattle.ra_weigh.specs.Nearness.{FindsOne}
use Rattle.ra_weigh.proofs.HoldLemmas.{told_true, told_false}
use Rattle.ra_weigh.proofs.NearLemmas.{one_there, one_missing}
use Rattle.ra_weigh.proofs.trial.Trial.finds_one.Goals as goal

pub returns-then-near-eq0 : goal.returns-then-near-eq0
returns-then-near-eq0 c = told_false (λ finds. grind (arith, one_missing))

pub returns : goal.returns
returns c = told_true (grind (arith, one_there))
