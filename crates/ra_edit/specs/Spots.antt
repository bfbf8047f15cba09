-- Where processes of a service are counted.
use Rattle.std.specs.Prelude.{ℕ, Bool, ◌==◌}
use Rattle.ra_model.specs.declared.raw.Tables.{Tables}
use Rattle.ra_model.specs.Numbers.{neighbourhood_of, location_of}
use Rattle.ra_edit.specs.declared.members.Spot.{Spot}
use Rattle.ra_edit.specs.declared.members.Spot.TheVariants.{OnMachine, InNeighbourhood, InLocation}

-- whether a process on machine `at` is at a spot
abbrev pub is_there : Tables → Spot → ℕ → ℕ → Bool
is_there i (OnMachine m) p at = at == m.0
is_there i (InNeighbourhood label) p at = neighbourhood_of i at == label
is_there i (InLocation label) p at = location_of i at == label
