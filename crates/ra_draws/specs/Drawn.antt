-- What a contract sees of `Draws`.
use Rattle.std.specs.Prelude.{ℕ}
use Rattle.ra_draws.specs.declared.sources.Lot.{Lot}

-- the lot whose words are handed out, and the number of proposals whose words were
pub record Drawn : Type 0 where
  pub lot : Lot
  pub made : ℕ
