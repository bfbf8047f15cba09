-- One service needed after another.
use Rattle.std.proofs.Common.{get_or, refl, arith}
use Rattle.ra_base.specs.declared.ids.Service.{Service}
use Rattle.ra_model.specs.Numbers.{neighbourhood_of}
use Rattle.ra_topology.specs.Lists.{service_at}
use Rattle.ra_weigh.specs.Trials.{tables_of, after_of}
use Rattle.ra_weigh.specs.Nearness.{FindsNeeds}
use Rattle.ra_weigh.proofs.HoldLemmas.{told_true, told_false}
use Rattle.ra_weigh.proofs.NearLemmas.{distinct_listed, listed_there, needs_start, need_next, needs_all, need_missing}
use Rattle.ra_weigh.proofs.trial.Trial.finds_needs.Goals as goal

pub loop-k-init : goal.loop-k-init
loop-k-init c = grind (arith, needs_start)

pub count_after-near-requires : goal.count_after-near-requires
unfolding service_at
count_after-near-requires c = grind (arith, listed_there, distinct_listed)

pub returns-then-near-eq0 : goal.returns-then-near-eq0
unfolding service_at
returns-then-near-eq0 c = told_false (λ finds. grind (arith, need_missing, distinct_listed))

pub loop-k-preserved : goal.loop-k-preserved
unfolding service_at
loop-k-preserved c = grind (arith, need_next)

pub returns : goal.returns
returns c = told_true (grind (arith, needs_all, distinct_listed))
