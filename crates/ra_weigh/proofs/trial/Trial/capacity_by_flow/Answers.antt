-- One resource after another, with what comes and without what goes.
use Rattle.std.proofs.Common.{◌≡◌, ◌∙◌, sym, arith}
use Rattle.ra_base.proofs.Searches.{first_none, first_more_none, first_found}
use Rattle.ra_model.specs.Numbers.{resource_count}
use Rattle.ra_model.specs.Broken.{row_capacity}
use Rattle.ra_weigh.specs.Trials.{tables_of}
use Rattle.ra_weigh.proofs.trial.Trial.capacity_by_flow.Goals as goal

pub loop-r-init : goal.loop-r-init
loop-r-init c = first_none _

pub returns-in-Some : goal.returns-in-Some
unfolding row_capacity
returns-in-Some c = grind (arith, first_found)

pub loop-r-preserved : goal.loop-r-preserved
loop-r-preserved c = grind (arith, first_more_none)

pub returns : goal.returns
unfolding row_capacity
returns c = grind arith
