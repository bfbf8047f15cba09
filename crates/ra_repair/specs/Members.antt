-- The processes of a service in a list, by their places there.
use Rattle.std.specs.Prelude.{ℕ, List, Bool, ◌==◌}
use Rattle.ra_base.specs.declared.ids.Machine.{Machine}
use Rattle.ra_base.specs.declared.ids.Process.{Process}
use Rattle.ra_model.specs.declared.raw.Tables.{Tables}
use Rattle.ra_model.specs.Assignments.{machine_at}
use Rattle.ra_model.specs.Members.{member_at}
use Rattle.ra_model.specs.Broken.{near_of}

-- the machine of process k of a list
unfoldable pub seat_of : List Machine → List Process → ℕ → ℕ
seat_of a processes k = machine_at a (member_at processes k)

-- process j of a list of processes of service s has none of the service of dependency k in its neighbourhood
unfoldable pub is_far : Tables → List Machine → List Process → ℕ → ℕ → ℕ → Bool
is_far i a processes s k j = near_of i a s k (member_at processes j) == 0
