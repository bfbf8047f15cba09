-- The cheapest of the machines so far.
use Rattle.ra_descent.specs.Cheapest.{IsCheapest}
use Rattle.ra_descent.proofs.windows.with_each.Given as goal

abbrev pub invariant-loop-m : goal.invariant-loop-m
invariant-loop-m l = IsCheapest l.shift.world.now l.shift.process.0 l.m l.least
