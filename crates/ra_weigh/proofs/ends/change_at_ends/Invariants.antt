-- The machines of the first ends, each once.
use Rattle.std.proofs.Common.{◌≡◌, ◌*◌, ◌^◌, ◌≤◌}
use Rattle.ra_base.specs.Sums.{total, fresh}
use Rattle.ra_moves.specs.Replacing.{applied}
use Rattle.ra_moves.specs.Values.{end_in}
use Rattle.ra_weigh.specs.PlaceCosts.{row_cost}
use Rattle.ra_weigh.proofs.ends.change_at_ends.Given as goal

abbrev pub invariant-loop-j : goal.invariant-loop-j
invariant-loop-j l = record {
  added : l.change.added ≡
      total l.j (fresh (end_in l.mv.steps)
      (row_cost l.world.tables (applied l.world.here l.mv.steps)));
  taken : l.change.taken ≡
      total l.j (fresh (end_in l.mv.steps) (row_cost l.world.tables l.world.here));
  added_few : l.change.added ≤ l.j * 2 ^ 106;
  taken_few : l.change.taken ≤ l.j * 2 ^ 106;
}
