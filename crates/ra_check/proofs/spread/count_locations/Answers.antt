use Rattle.std.proofs.Common.{◌+◌, ◌<◌, ◌∙◌, sym, ap, length, arith}
use Rattle.ra_check.specs.Stamps.{site_of}
use Rattle.ra_check.proofs.StampLemmas.{stamped_more, below_set, site_within}
use Rattle.ra_check.proofs.SpreadLemmas.{sites_new, sites_old}
use Rattle.ra_check.proofs.spread.count_locations.Goals as goal
use Rattle.ra_check.proofs.spread.count_locations.Goals.{then-not-again, else-not-again}

pub stamp_place-again-requires : goal.stamp_place-again-requires
stamp_place-again-requires c =
    omega (
      arith,
      c.location_place-place.ensures,
      c.loop-k.invariant.below.one_each,
      site_within c.args.places.now.locations c.args.a.now.items c.args.processes.now (length c.args.marks.now.items)
          c.loop-k.k c.requires.seated c.requires.placed c.loop-k-test.true,
    )

pub loop-k-preserved : goal.loop-k-preserved
loop-k-preserved c =
    let size = length c.args.marks.now.items in
    let e = site_of c.args.places.now.locations c.args.a.now.items c.args.processes.now in
    let within : c.location_place-place.result.0 < length c.args.marks.now.items =
    omega (
      arith,
      c.location_place-place.ensures,
      site_within c.args.places.now.locations c.args.a.now.items
          c.args.processes.now (length c.args.marks.now.items) c.loop-k.k c.requires.seated c.requires.placed
          c.loop-k-test.true,
    ) in
    record {
      stamped = rw c.stamp_place-again.ensures.marks
          (stamped_more c.loop-k.marks.items size c.args.stamp c.loop-k.k c.location_place-place.result.0 e
          c.loop-k.invariant.stamped c.loop-k.invariant.below.one_each within c.location_place-place.ensures);
      below = rw c.stamp_place-again.ensures.marks
          (below_set c.loop-k.marks.items size (c.args.stamp + 1) c.location_place-place.result.0 c.args.stamp
          c.loop-k.invariant.below (omega arith));
      count = elim c.if-not-again.branch [
        | then-not-again w ↦ w.has-is ∙ ap (λ n. n + 1) c.loop-k.invariant.count
            ∙ sym (sites_new c.loop-k.marks.items size c.args.stamp c.loop-k.k c.location_place-place.result.0 e
            c.loop-k.invariant.stamped within c.location_place-place.ensures (sym c.stamp_place-again.ensures.before
            ∙ w.if-not-again.true))
        | else-not-again w ↦ w.has-is ∙ c.loop-k.invariant.count
            ∙ sym (sites_old c.loop-k.marks.items size c.args.stamp c.loop-k.k c.location_place-place.result.0 e
            c.loop-k.invariant.stamped within c.location_place-place.ensures (sym c.stamp_place-again.ensures.before
            ∙ w.if-not-again.false))
      ];
      few = elim c.if-not-again.branch [ then-not-again w ↦ omega arith | else-not-again w ↦ omega arith ];
    }
