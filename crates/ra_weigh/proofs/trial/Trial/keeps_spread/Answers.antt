-- What a move can break is broken where a step leads.
use Rattle.std.proofs.Common.{refl, sym, arith}
use Rattle.ra_model.specs.Numbers.{service_count}
use Rattle.ra_model.specs.Broken.{broken_spread}
use Rattle.ra_weigh.specs.Trials.{tables_of}
use Rattle.ra_weigh.proofs.StepLemmas.{service_within}
use Rattle.ra_weigh.proofs.HoldLemmas.{none_start, none_more, none_all, told_true, told_false, found_there, spread_moved}
use Rattle.ra_weigh.proofs.trial.Trial.keeps_spread.Goals as goal

pub loop-j-init : goal.loop-j-init
loop-j-init c = grind (arith, none_start)

pub returns-in-Some : goal.returns-in-Some
unfolding broken_spread
returns-in-Some c =
    let t = c.args.self.now in
    told_false (found_there (service_count (tables_of t)) _
    _ c.in-Some._cause
    (service_within t.inst.now.well_formed t.moves (omega (arith, c.loop-j-test.true, c.steps-j-end.ensures.value)))
    c.in-Some.ensures)

pub loop-j-preserved : goal.loop-j-preserved
loop-j-preserved c = grind (arith, none_more)

pub returns : goal.returns
unfolding broken_spread
returns c = told_true (grind (arith, none_all, spread_moved))
