-- The sum over the dependants so far.
use Rattle.std.proofs.Common.{◌≡◌, ◌*◌, ◌≤◌}
use Rattle.ra_base.specs.Sums.{total}
use Rattle.ra_topology.specs.Lists.{service_at}
use Rattle.ra_repair.specs.Touched.{left_alone}
use Rattle.ra_repair.proofs.far.all_alone.Given as goal

abbrev pub invariant-loop-j : goal.invariant-loop-j
invariant-loop-j l = record {
  value : l.sum ≡
      total l.j (λ j. left_alone l.inst.tables l.kept.assignment.items l.s.0 l.label (service_at l.dependants j));
  few : l.sum ≤ l.j * 5000000000;
}
