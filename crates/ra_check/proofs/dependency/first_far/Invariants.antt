use Rattle.std.proofs.Common.{◌≡◌, None}
use Rattle.ra_base.specs.Searches.{first}
use Rattle.ra_check.specs.Stamps.{far_seat}
use Rattle.ra_check.proofs.dependency.first_far.Given as goal

abbrev pub invariant-loop-k : goal.invariant-loop-k
invariant-loop-k l = first l.k (far_seat l.marks.items l.stamp l.places.neighbourhoods l.a.items l.processes) ≡ None
