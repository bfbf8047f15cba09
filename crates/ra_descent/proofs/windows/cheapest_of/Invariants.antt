-- The cheapest of the machines so far.
use Rattle.std.proofs.Common.{◌-◌, ◌≤◌}
use Rattle.ra_model.specs.Numbers.{machine_count}
use Rattle.ra_descent.specs.Cheapest.{IsCheapest}
use Rattle.ra_descent.proofs.windows.cheapest_of.Given as goal

abbrev pub invariant-loop-first : goal.invariant-loop-first
invariant-loop-first g l = record {
  within : l.first ≤ machine_count l.world.tables;
  best : IsCheapest l.world l.fn.process.0 l.first l.best;
}

abbrev pub decreases-loop-first : goal.decreases-loop-first
decreases-loop-first g l = l.machines - l.first
