-- Which services depend on which.
use Rattle.std.specs.Prelude.{ℕ, Bool, ◌||◌}
use Rattle.ra_base.specs.Sums.{is_named}
use Rattle.ra_model.specs.declared.raw.Tables.{Tables}
use Rattle.ra_model.specs.Numbers.{dependency_count, need_of}

-- service s depends on service u
unfoldable pub depends : Tables → ℕ → ℕ → Bool
depends i s u = is_named (dependency_count i s) (need_of i s) u

-- one of two services depends on the other
unfoldable pub are_joined : Tables → ℕ → ℕ → Bool
are_joined i s u = depends i s u || depends i u s
