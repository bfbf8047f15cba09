-- What a contract sees of `Places`: for each machine the place of its location, and that of its neighbourhood.
use Rattle.std.specs.Prelude.{List}
use Rattle.ra_base.specs.declared.ids.Machine.{Machine}

pub record PlaceLists : Type 0 where
  pub locations : List Machine
  pub neighbourhoods : List Machine
