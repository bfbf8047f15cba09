-- How many of the dependencies so far are on the service.
use Rattle.std.proofs.Common.{◌≡◌, ◌≤◌}
use Rattle.ra_base.specs.Sums.{count}
use Rattle.ra_repair.specs.Touched.{is_link}
use Rattle.ra_repair.proofs.far.links.Given as goal

abbrev pub invariant-loop-k : goal.invariant-loop-k
invariant-loop-k l = record {
  value : l.count ≡ count l.k (is_link l.inst.tables l.fn.s.0 l.fn.u.0);
  few : l.count ≤ l.k;
}
