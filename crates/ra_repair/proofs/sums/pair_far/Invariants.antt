-- The sum so far.
use Rattle.std.proofs.Common.{◌≡◌, ◌≤◌}
use Rattle.ra_base.specs.Sums.{count}
use Rattle.ra_repair.specs.Members.{is_far}
use Rattle.ra_repair.proofs.sums.pair_far.Given as goal

abbrev pub invariant-loop-j : goal.invariant-loop-j
invariant-loop-j l = record {
  value : l.far ≡ count l.j (is_far l.inst.tables l.kept.assignment.items l.members l.s.0 l.k);
  few : l.far ≤ l.j;
}
