-- One resource after another.
use Rattle.std.proofs.Common.{◌≡◌, arith}
use Rattle.std.proofs.lemmas.Bool.{both_ways}
use Rattle.ra_model.specs.Numbers.{resource_count}
use Rattle.ra_weigh.specs.Holding.{FitsBelow}
use Rattle.ra_weigh.specs.Trials.{tables_of, initial_of, after_of}
use Rattle.ra_weigh.proofs.HoldLemmas.{told_true, told_false}
use Rattle.ra_weigh.proofs.FitLemmas.{below_start, below_more, at_from_below}
use Rattle.ra_weigh.proofs.trial.Trial.fits_by_flows.Goals as goal

pub loop-r-init : goal.loop-r-init
loop-r-init c =
    below_start _ _ _ c.args.m.0

pub returns-then-not-fits_flowing : goal.returns-then-not-fits_flowing
returns-then-not-fits_flowing c = told_false (λ all. grind (arith, at_from_below))

pub loop-r-preserved : goal.loop-r-preserved
loop-r-preserved c = below_more _ _ _
    c.args.m.0 c.loop-r.r c.loop-r.invariant (c.fits_flowing.ensures.0 c.if-not-fits_flowing.false)

pub returns : goal.returns
returns c = told_true (grind arith)
