-- Each cell is the use by the processes so far.
use Rattle.std.proofs.Common.{◌≡◌, ◌*◌, length}
use Rattle.ra_model.specs.Numbers.{resource_count, machine_count}
use Rattle.ra_model.specs.Usage.{use_share}
use Rattle.ra_check.specs.Stands.{IsTally}
use Rattle.ra_check.proofs.usage.sum_usage.Given as goal

abbrev pub invariant-loop-p : goal.invariant-loop-p
invariant-loop-p g l = record {
  sums : IsTally (resource_count l.inst.tables) l.p (use_share l.inst.tables) l.a.items l.table.items;
  grid : length l.table.items ≡ machine_count l.inst.tables * resource_count l.inst.tables;
}
