-- The entries so far are taken in, and for each the requirements of at most three processes were read.
use Rattle.std.proofs.Common.{◌+◌, ◌*◌, ◌≤◌}
use Rattle.ra_model.specs.Numbers.{resource_count}
use Rattle.ra_worker.specs.Replicas.{HasTaken}
use Rattle.ra_worker.proofs.replica.Replica.take_in.Given as goal

abbrev pub invariant-loop-j : goal.invariant-loop-j
invariant-loop-j g l = record {
  taken : HasTaken l.fn.self l.self l.batch l.j;
  counted : l.steps ≤ l.fn.steps + l.j * (3 * resource_count l.fn.self.world.tables);
}
