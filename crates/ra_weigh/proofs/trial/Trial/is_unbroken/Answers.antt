-- Each of the six tests in turn.
use Rattle.std.proofs.Common.{◌≡◌, true, None, arith}
use Rattle.std.proofs.lemmas.Bool.{both_ways}
use Rattle.ra_model.specs.Broken.{first_broken}
use Rattle.ra_model.proofs.BrokenLemmas.{fine_from_unbroken, unbroken_from_fine}
use Rattle.ra_weigh.specs.Trials.{tables_of, initial_of, after_of}
use Rattle.ra_weigh.proofs.HoldLemmas.{told_false}
use Rattle.ra_weigh.proofs.trial.Trial.is_unbroken.Goals as goal

pub returns-then-not-keeps_rows : goal.returns-then-not-keeps_rows
returns-then-not-keeps_rows c = told_false (λ none. grind (arith, fine_from_unbroken))

pub returns-then-not-keeps_apart : goal.returns-then-not-keeps_apart
returns-then-not-keeps_apart c = told_false (λ none. grind (arith, fine_from_unbroken))

pub returns-then-not-keeps_spread : goal.returns-then-not-keeps_spread
returns-then-not-keeps_spread c = told_false (λ none. grind (arith, fine_from_unbroken))

pub returns-then-not-keeps_near : goal.returns-then-not-keeps_near
returns-then-not-keeps_near c = told_false (λ none. grind (arith, fine_from_unbroken))

pub returns : goal.returns
returns c = grind (arith, unbroken_from_fine, fine_from_unbroken)
