-- What holds of capacity and transient use after a move.
use Rattle.std.specs.Prelude.{◌≡◌, ℕ, List, None}
use Rattle.ra_base.specs.Searches.{first}
use Rattle.ra_base.specs.declared.ids.Machine.{Machine}
use Rattle.ra_model.specs.declared.raw.Tables.{Tables}
use Rattle.ra_model.specs.Broken.{capacity_test, transient_test, broken_capacity, broken_transient}

-- neither the use nor the transient use of resource r of machine m is above its capacity
pub record FitsAt (i : Tables) (a0 b : List Machine) (m r : ℕ) : Type 0 where
  pub capacity : capacity_test i b m r ≡ None
  pub transient : transient_test i a0 b m r ≡ None

-- neither use is above capacity for any of the first n resources of machine m
pub record FitsBelow (i : Tables) (a0 b : List Machine) (m n : ℕ) : Type 0 where
  pub capacity : first n (capacity_test i b m) ≡ None
  pub transient : first n (transient_test i a0 b m) ≡ None

-- neither use is above capacity for any resource of any machine
pub record FitsAll (i : Tables) (a0 b : List Machine) : Type 0 where
  pub capacity : broken_capacity i b ≡ None
  pub transient : broken_transient i a0 b ≡ None
