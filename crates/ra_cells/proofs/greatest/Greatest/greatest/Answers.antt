-- The most is the greatest of the counts, and each is within the limit.
use Rattle.std.proofs.Common.{ap, arith}
use Rattle.ra_cells.specs.MovedCounts.{MovedCounts}
use Rattle.ra_cells.proofs.GreatestLemmas.{most_within}
use Rattle.ra_cells.proofs.greatest.Greatest.greatest.Goals as goal

pub returns-clause-within : goal.returns-clause-within
returns-clause-within c =
    omega (
      arith,
      most_within,
      ap (λ (m : MovedCounts). m.limit) c.self.view_is,
    )
