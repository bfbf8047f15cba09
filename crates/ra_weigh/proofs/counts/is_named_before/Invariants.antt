-- None of the first steps moves a process of the service.
use Rattle.std.proofs.Common.{◌≡◌, false}
use Rattle.ra_base.specs.Sums.{is_named}
use Rattle.ra_moves.specs.Touched.{service_in}
use Rattle.ra_weigh.proofs.counts.is_named_before.Given as goal

abbrev pub invariant-loop-k : goal.invariant-loop-k
invariant-loop-k l = is_named l.k (service_in l.world.tables l.mv.steps) l.s.0 ≡ false
