-- The counts of the different services of the first steps.
use Rattle.std.proofs.Common.{◌≡◌, length}
use Rattle.ra_moves.specs.Weighing.{services_moved}
use Rattle.ra_weigh.specs.CountLists.{AreCountsOf}
use Rattle.ra_weigh.proofs.counts.counts_of.Given as goal

abbrev pub invariant-loop-j : goal.invariant-loop-j
invariant-loop-j l = record {
  filled : l.filled ≡ length (services_moved l.world.tables l.mv.steps l.j);
  counts : AreCountsOf l.world l.mv.steps l.j
      l.counts;
}
