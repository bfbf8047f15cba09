use Rattle.ra_base.specs.Sums.{is_named}
use Rattle.ra_check.specs.Stamps.{site_of, AreSet}
use Rattle.ra_check.proofs.dependency.stamp_all.Given as goal

abbrev pub invariant-loop-k : goal.invariant-loop-k
invariant-loop-k l =
    AreSet l.initial.marks.items l.marks.items l.stamp
    (is_named l.k (site_of l.places.neighbourhoods l.a.items l.processes))
