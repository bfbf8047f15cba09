-- What is looked for is there, and what comes before it isn't.
use Rattle.std.proofs.Common.{◌≡◌, None, sym, arith}
use Rattle.std.proofs.lemmas.Bool.{both_ways}
use Rattle.ra_model.specs.Broken.{first_broken, broken_transient, broken_conflict, broken_spread}
use Rattle.ra_weigh.specs.Trials.{tables_of, initial_of, after_of}
use Rattle.ra_weigh.proofs.HoldLemmas.{found_first, found_later, found_at_once}
use Rattle.ra_weigh.proofs.trial.Trial.first_broken.Goals as goal

pub returns-in-Some : goal.returns-in-Some
unfolding first_broken
returns-in-Some c = found_first _ _ c.in-Some.ensures

pub returns-then-not-keeps_rows : goal.returns-then-not-keeps_rows
unfolding first_broken
returns-then-not-keeps_rows c = grind (arith, found_later, found_at_once)

pub returns-then-not-keeps_apart : goal.returns-then-not-keeps_apart
unfolding first_broken
returns-then-not-keeps_apart c = grind (arith, found_later, found_at_once)

pub returns-then-not-keeps_spread : goal.returns-then-not-keeps_spread
unfolding first_broken
returns-then-not-keeps_spread c = grind (arith, found_later, found_at_once)

pub returns-in-Some-broken_dependency : goal.returns-in-Some-broken_dependency
unfolding first_broken
returns-in-Some-broken_dependency c = grind (arith, found_later, found_first)

pub returns-then-keeps_closed : goal.returns-then-keeps_closed
unfolding first_broken
returns-then-keeps_closed c = grind (arith, found_later)

pub returns : goal.returns
unfolding first_broken
returns c = grind (arith, found_later)
