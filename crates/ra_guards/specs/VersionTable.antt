-- What a contract sees of `Versions`: the version of each machine and of each service.
use Rattle.std.specs.Prelude.{ℕ, List}

pub record VersionTable : Type 0 where
  pub machines : List ℕ
  pub services : List ℕ
