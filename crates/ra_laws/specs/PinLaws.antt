-- What holds of the rounds that pin processes, proved by a function of `pins`.
use Rattle.std.specs.Prelude.{◌≡◌, ℕ, ◌<◌, true, List}
use Rattle.ra_base.specs.declared.ids.Machine.{Machine}
use Rattle.ra_model.specs.declared.raw.Tables.{Tables}
use Rattle.ra_model.specs.Numbers.{process_count}
use Rattle.ra_pins.specs.Pinned.{rounds, is_pinned}

-- further rounds pin nothing more: what any number of rounds flags, as many rounds flag as there are processes
abbrev pub RoundsEnd : Type 0
RoundsEnd =
    (i : Tables) (a0 : List Machine) (n p : ℕ) → p < process_count i → rounds i a0 n p ≡ true
    → is_pinned i a0 p ≡ true
