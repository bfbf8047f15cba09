-- One dependency after another.
use Rattle.std.proofs.Common.{◌≡◌, ◌<◌, sym, arith}
use Rattle.ra_base.proofs.Searches.{first_none, first_more_none, first_found}
use Rattle.ra_model.specs.Numbers.{dependency_count}
use Rattle.ra_model.specs.Broken.{service_dependency}
use Rattle.ra_weigh.specs.Trials.{tables_of}
use Rattle.ra_weigh.proofs.trial.Trial.service_dependency.Goals as goal

pub loop-k-init : goal.loop-k-init
loop-k-init c = first_none _

pub returns-in-Some : goal.returns-in-Some
unfolding service_dependency
returns-in-Some c = grind (arith, first_found)

pub loop-k-preserved : goal.loop-k-preserved
loop-k-preserved c = grind (arith, first_more_none)

pub returns : goal.returns
unfolding service_dependency
returns c = grind arith
