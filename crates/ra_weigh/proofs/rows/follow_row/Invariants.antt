-- The row is that of the assignment after the first steps.
use Rattle.std.proofs.Common.{◌≡◌, length}
use Rattle.ra_model.specs.Numbers.{resource_count}
use Rattle.ra_rows.specs.Rows.{IsUsageRow}
use Rattle.ra_moves.specs.Replacing.{after_steps}
use Rattle.ra_weigh.proofs.rows.follow_row.Given as goal

abbrev pub invariant-loop-j : goal.invariant-loop-j
invariant-loop-j l = record {
  width : length l.row ≡ resource_count l.world.tables;
  now : IsUsageRow l.world.tables (after_steps l.world.here l.mv.steps l.j) l.m.0 l.row;
}
