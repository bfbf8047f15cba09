-- The processes of the first steps.
use Rattle.std.proofs.Common.{◌≡◌, ◌*◌, ◌^◌, ◌≤◌}
use Rattle.ra_base.specs.Sums.{total}
use Rattle.ra_moves.specs.Values.{come}
use Rattle.ra_weigh.specs.PlaceCosts.{place_cost}
use Rattle.ra_weigh.proofs.ways.cost_entered.Given as goal

abbrev pub invariant-loop-j : goal.invariant-loop-j
invariant-loop-j l = record {
  value : l.cost ≡ total l.j (come (place_cost l.world.tables l.world.start) l.mv.steps);
  few : l.cost ≤ l.j * 2 ^ 100;
}
