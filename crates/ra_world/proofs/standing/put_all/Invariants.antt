-- The processes so far are on their machines in the list.
use Rattle.std.proofs.Common.{◌+◌, ◌*◌, ◌≡◌}
use Rattle.ra_model.specs.Numbers.{resource_count}
use Rattle.ra_world.specs.Standing.{OnlyMoves}
use Rattle.ra_world.specs.Differing.{differing}
use Rattle.ra_world.proofs.StandingLaws.{AgreeTo}
use Rattle.ra_world.proofs.standing.put_all.Given as goal

abbrev pub invariant-loop-p : goal.invariant-loop-p
invariant-loop-p g l = record {
  moves : OnlyMoves l.fn.kept l.kept;
  agree : AgreeTo l.fn.kept.assignment.items l.kept.assignment.items l.list.items l.p;
  counted : l.steps ≡ l.fn.steps + differing l.p l.fn.kept.assignment.items l.list.items
      * resource_count l.inst.tables;
}
