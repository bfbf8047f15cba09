-- The sums with the ways of the machines.
use Rattle.std.proofs.Common.{◌≡◌, ℕ, ◌*◌, ◌<◌, get_or, ap₂, arith}
use Rattle.ra_shift.specs.Lanes.{way_in}
use Rattle.ra_shift.proofs.LaneLaws.{ways_in_ring, way_small}
use Rattle.ra_shift.proofs.windows.with_ways.Goals as goal

pub ring_part-ways-requires-clause-start : goal.ring_part-ways-requires-clause-start
ring_part-ways-requires-clause-start c = omega (arith, c.requires.first, c.ways_from.ensures.count)

pub add_ways-requires-clause-ways_small : goal.add_ways-requires-clause-ways_small
add_ways-requires-clause-ways_small c = λ k below. way_small c.machine_weight-weight.result _ c.greatest_of-most.result
    (c.greatest_of-most.ensures k (omega (arith, below, c.ring_part-ways.ensures.many)))
    (omega (arith, ap₂ (λ x y. x * y) c.from.ensures c.from-2.ensures))

pub returns : goal.returns
returns c =
    let i = c.args.inst.now.tables in
    let way : (k : ℕ) → k < 64 → c.machine_weight-weight.result * get_or c.ring_part-ways.result.now k 0
    ≡ way_in i c.args.home.0 c.args.first k =
    λ k below. ap₂ (λ x y. x * y) c.machine_weight-weight.ensures
    (ways_in_ring i c.args.home.0 c.args.first c.ways_from.result.now c.ring_part-ways.result.now c.requires.first
    c.ways_from.ensures.count c.ways_from.ensures.each c.ring_part-ways.ensures k below) in
    record {
      small = λ k below. omega (
        arith,
        way k below,
        way_small c.machine_weight-weight.result _ c.greatest_of-most.result
            (c.greatest_of-most.ensures k (omega (arith, below, c.ring_part-ways.ensures.many)))
            (omega (arith, ap₂ (λ x y. x * y) c.from.ensures c.from-2.ensures)),
      );
      each = λ k below. omega (arith, way k below, c.add_ways.ensures k below);
      bits = c.marks_of.ensures;
    }
