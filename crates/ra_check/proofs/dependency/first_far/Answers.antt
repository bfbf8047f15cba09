use Rattle.std.proofs.Common.{sym, ◌∙◌, length}
use Rattle.ra_base.proofs.Searches.{first_found}
use Rattle.ra_check.specs.Stamps.{far_seat}
use Rattle.ra_check.proofs.DependencyLemmas.{far_yes}
use Rattle.ra_check.proofs.dependency.first_far.Goals as goal

pub returns-then-not-is_stamped : goal.returns-then-not-is_stamped
returns-then-not-is_stamped c =
    sym (first_found c.loop-k.k (length c.args.processes.now)
    (far_seat c.args.marks.now.items c.args.stamp c.args.places.now.neighbourhoods c.args.a.now.items
    c.args.processes.now) c.seat.result c.loop-k-test.true c.loop-k.invariant
    (far_yes c.args.marks.now.items c.args.stamp c.args.places.now.neighbourhoods c.args.a.now.items
    c.args.processes.now c.loop-k.k c.seat.result c.neighbourhood_place-place.result.0
    c.neighbourhood_place-place.ensures c.seat.ensures
    (sym c.is_stamped.ensures ∙ c.if-not-is_stamped.true)))
