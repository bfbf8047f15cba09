use Rattle.std.proofs.Common.{◌<◌, length, arith}
use Rattle.ra_check.specs.Stamps.{site_of}
use Rattle.ra_check.proofs.StampLemmas.{site_within}
use Rattle.ra_check.proofs.DependencyLemmas.{set_none, set_more}
use Rattle.ra_check.proofs.dependency.stamp_all.Goals as goal

pub loop-k-init : goal.loop-k-init
loop-k-init c =
    set_none c.args.marks.now.items c.args.stamp
    (site_of c.args.places.now.neighbourhoods c.args.a.now.items c.args.processes.now)

pub loop-k-preserved : goal.loop-k-preserved
loop-k-preserved c =
    let within : c.neighbourhood_place-place.result.0 < length c.args.marks.now.items =
    omega (
      arith,
      c.neighbourhood_place-place.ensures,
      site_within c.args.places.now.neighbourhoods c.args.a.now.items c.args.processes.now
          (length c.args.marks.now.items) c.loop-k.k c.requires.seated c.requires.placed c.loop-k-test.true,
    ) in
    rw c.set.ensures.items
    (set_more c.args.marks.now.items c.loop-k.marks.items c.args.stamp c.loop-k.k
    c.neighbourhood_place-place.result.0
    (site_of c.args.places.now.neighbourhoods c.args.a.now.items c.args.processes.now) c.loop-k.invariant within
    c.neighbourhood_place-place.ensures)
