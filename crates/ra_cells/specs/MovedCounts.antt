-- What a contract sees of `Greatest`: the moved count of each service, and the limit that no count exceeds.
use Rattle.std.specs.Prelude.{ℕ, List}

pub record MovedCounts : Type 0 where
  pub counts : List ℕ
  pub limit : ℕ
