-- What the checks of services use.
use Rattle.std.specs.Prelude.{◌≡◌, length}
use Rattle.ra_model.specs.declared.raw.Tables.{Tables}
use Rattle.ra_model.specs.Numbers.{machine_count}
use Rattle.ra_model.specs.Members.{AreMembers}
use Rattle.ra_model.specs.Places.{ArePlaces}
use Rattle.ra_check.specs.declared.services.Services.{Services}

-- made for an instance: its members and its places, and one mark for each machine, with any values
pub record AreServicesOf (services : Services) (i : Tables) : Type 0 where
  pub members : AreMembers services.members i
  pub places : ArePlaces services.places i
  pub marks : length services.marks.items ≡ machine_count i
