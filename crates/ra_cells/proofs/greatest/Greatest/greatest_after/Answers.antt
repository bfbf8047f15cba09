-- The highest number up to the most and each new count that isn't free.
use Rattle.std.proofs.Common.{◌≤◌, subst, ap, arith}
use Rattle.ra_cells.specs.MovedCounts.{MovedCounts}
use Rattle.ra_cells.specs.Counted.{AreCounted}
use Rattle.ra_cells.proofs.GreatestLemmas.{after_is, after_within, most_within}
use Rattle.ra_cells.proofs.greatest.Greatest.greatest_after.Goals as goal

within : (c : goal.After-max-top-2) → c.max-top-2.result ≤ c.args.self.now.limit
within c =
    omega (
      arith,
      most_within c.self.inside.counts.items c.self.inside.tallies.items c.self.inside.limit
          c.self.inside.most c.self.invariant,
      ap (λ (m : MovedCounts). m.limit) c.self.view_is,
      after_within c.args.self.now c.args.first c.requires.first,
      after_within c.args.self.now c.args.second c.requires.second,
      after_within c.args.self.now c.args.third c.requires.third,
    )

pub highest-requires : goal.highest-requires
highest-requires c =
    omega (arith, within, ap (λ (m : MovedCounts). m.limit) c.self.view_is, c.self.invariant.tallied.one_each)

pub returns-clause-value : goal.returns-clause-value
returns-clause-value c =
    let counted =
    subst (λ (m : MovedCounts). AreCounted m.counts c.self.inside.tallies.items m.limit c.self.inside.most)
    c.self.view_is c.self.invariant in
    after_is c.args.self.now c.self.inside.tallies.items c.self.inside.most c.max-top-2.result c.highest.result
    c.args.first c.args.second c.args.third counted (omega arith) (omega arith) (omega arith) (omega arith)
    (bound c) c.highest.ensures.within c.requires.first c.requires.second c.requires.third c.requires.first_second
    c.requires.first_third c.requires.second_third c.highest.ensures.none c.highest.ensures.some
  where
    bound : (c : goal.After-highest) → c.max-top-2.result ≤ c.args.self.now.limit
    bound c = omega (
      arith,
      most_within c.self.inside.counts.items c.self.inside.tallies.items c.self.inside.limit
          c.self.inside.most c.self.invariant,
      ap (λ (m : MovedCounts). m.limit) c.self.view_is,
      after_within c.args.self.now c.args.first c.requires.first,
      after_within c.args.self.now c.args.second c.requires.second,
      after_within c.args.self.now c.args.third c.requires.third,
    )

pub returns-clause-within : goal.returns-clause-within
returns-clause-within c =
    omega (
      arith,
      c.highest.ensures.within,
      most_within c.self.inside.counts.items c.self.inside.tallies.items
          c.self.inside.limit c.self.inside.most c.self.invariant,
      ap (λ (m : MovedCounts). m.limit) c.self.view_is,
      after_within c.args.self.now c.args.first c.requires.first,
      after_within c.args.self.now c.args.second c.requires.second,
      after_within c.args.self.now c.args.third c.requires.third,
    )
