-- The tallies follow the count, and the highest number that isn't free is the greatest.
use Rattle.std.proofs.Common.{length, ap, arith}
use Rattle.ra_cells.specs.MovedCounts.{MovedCounts}
use Rattle.ra_cells.proofs.GreatestLemmas.{count_held, tally_few, most_within, counted_set}
use Rattle.ra_cells.proofs.greatest.Greatest.change.Goals as goal

pub retally-requires-clause-some : goal.retally-requires-clause-some
retally-requires-clause-some c = count_held c.self.inside.counts.items c.self.inside.tallies.items c.self.inside.limit
    c.args.s.0 c.get-before.result c.self.invariant.tallied
    (omega (arith, ap (λ (m : MovedCounts). length m.counts) c.self.view_is, c.requires.there)) c.get-before.ensures

pub retally-requires-clause-few : goal.retally-requires-clause-few
retally-requires-clause-few c = tally_few c.self.inside.counts.items c.self.inside.tallies.items c.self.inside.limit
    c.args.after c.self.invariant.tallied
    (omega (arith, ap (λ (m : MovedCounts). m.limit) c.self.view_is, c.requires.within))

pub highest-self-inside-requires : goal.highest-self-inside-requires
highest-self-inside-requires c =
    omega (
      arith,
      ap (λ (m : MovedCounts). m.limit) c.self.view_is,
      c.requires.within,
      most_within,
      c.self.invariant.tallied.one_each,
      c.retally.ensures.same_length,
    )

pub invariant_of-self : goal.invariant_of-self
invariant_of-self c =
    rw c.set.ensures.items
    (counted_set c.self.inside.counts.items c.self.inside.tallies.items c.retally.new.tallies.items
    c.self.inside.limit c.args.s.0 c.get-before.result c.args.after c.self.inside.most c.max-top.result
    c.highest-self-inside.result c.self.invariant
    (omega (arith, ap (λ (m : MovedCounts). length m.counts) c.self.view_is, c.requires.there))
    c.get-before.ensures (omega (arith, ap (λ (m : MovedCounts). m.limit) c.self.view_is, c.requires.within))
    c.retally.ensures c.max-top.ensures c.highest-self-inside.ensures.within c.highest-self-inside.ensures.none
    c.highest-self-inside.ensures.some)
