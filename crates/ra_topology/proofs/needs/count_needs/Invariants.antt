-- The dependencies of the services so far.
use Rattle.std.proofs.Common.{◌≡◌}
use Rattle.ra_model.specs.Numbers.{dependency_start}
use Rattle.ra_topology.proofs.needs.count_needs.Given as goal

abbrev pub invariant-loop-s : goal.invariant-loop-s
invariant-loop-s l = l.sum ≡ dependency_start l.inst.tables l.s
