-- A machine that isn't entered is used no more than before.
use Rattle.std.proofs.Common.{arith}
use Rattle.std.proofs.lemmas.Bool.{both_ways}
use Rattle.ra_weigh.specs.Holding.{FitsAll}
use Rattle.ra_weigh.specs.Trials.{tables_of, initial_of, steps_of, after_of}
use Rattle.ra_weigh.proofs.StepLemmas.{step_to, to_read}
use Rattle.ra_weigh.proofs.HoldLemmas.{capacity_entered, transient_entered, told_true, told_false}
use Rattle.ra_weigh.proofs.FitLemmas.{rows_start, rows_next, rows_fit_all, below_from_all}
use Rattle.ra_weigh.proofs.trial.Trial.keeps_rows.Goals as goal

pub loop-j-init : goal.loop-j-init
loop-j-init c = grind (arith, rows_start)

pub returns-then-not-row_fits : goal.returns-then-not-row_fits
returns-then-not-row_fits c = told_false (λ all. grind (arith, below_from_all, step_to))

pub loop-j-preserved : goal.loop-j-preserved
loop-j-preserved c = grind (arith, rows_next, to_read)

pub returns : goal.returns
returns c = told_true (grind (arith, rows_fit_all, capacity_entered, transient_entered))
