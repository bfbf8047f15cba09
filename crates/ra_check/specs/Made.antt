-- What a scratch is made for.
use Rattle.std.specs.Prelude.{◌≡◌, ℕ, ◌*◌, List, length}
use Rattle.ra_model.specs.declared.raw.Tables.{Tables}
use Rattle.ra_model.specs.Numbers.{resource_count, machine_count, service_count}
use Rattle.ra_check.specs.declared.scratch.Scratch.{Scratch}
use Rattle.ra_check.specs.Services.{AreServicesOf}

-- a table has one number for each machine and resource
abbrev pub IsGrid : Tables → List ℕ → Type 0
IsGrid i table = length table ≡ machine_count i * resource_count i

-- a scratch is made for an instance, whatever its tables contain: they have the lengths that the instance's counts ask
-- for, and the lists of members and of places are those of the instance
pub record IsMadeFor (scratch : Scratch) (i : Tables) : Type 0 where
  pub used : IsGrid i scratch.used.items
  pub transient : IsGrid i scratch.transient.items
  pub moved : length scratch.moved.items ≡ service_count i
  pub services : AreServicesOf scratch.services i
