-- What holds of pinned processes for every instance and every start.
use Rattle.std.specs.Prelude.{◌≡◌, ℕ, ◌<◌, Bool, true, List}
use Rattle.ra_base.specs.declared.ids.Machine.{Machine}
use Rattle.ra_model.specs.declared.raw.Tables.{Tables}
use Rattle.ra_model.specs.Numbers.{process_count}
use Rattle.ra_model.specs.Assignments.{IsAssignment, machine_at}
use Rattle.ra_model.specs.Feasible.{Feasible}
use Rattle.ra_pins.specs.Pinned.{round, is_pinned}

-- a round never clears a flag
abbrev pub RoundsOnlyAdd : Type 0
RoundsOnlyAdd =
    (i : Tables) (a0 : List Machine) (x : ℕ → Bool) (p : ℕ) → x p ≡ true → round i a0 x p ≡ true

-- a pinned process stays: in each assignment that is feasible with respect to the start it is on its initial machine
abbrev pub Stays : Tables → List Machine → ℕ → Type 0
Stays i a0 p =
    (a : List Machine) → IsAssignment i a → Feasible i a0 a → machine_at a p ≡ machine_at a0 p

abbrev pub PinnedStay : Type 0
PinnedStay =
    (i : Tables) (a0 : List Machine) (p : ℕ) → p < process_count i → is_pinned i a0 p ≡ true
    → Stays i a0 p
