-- What may be read for a process that may leave its machine.
use Rattle.std.specs.Prelude.{◌≡◌, ◌<◌, length}
use Rattle.ra_model.specs.declared.raw.Tables.{Tables}
use Rattle.ra_model.specs.Numbers.{resource_count, machine_count}
use Rattle.ra_sketch.specs.declared.leaving.Leaving.{Leaving}

-- its machines are machines of the instance, and it requires a number of each resource
pub record IsLeaverOf (i : Tables) (leaving : Leaving) : Type 0 where
  pub from_in : leaving.from.0 < machine_count i
  pub home_in : leaving.home.0 < machine_count i
  pub width : length leaving.required.now ≡ resource_count i
