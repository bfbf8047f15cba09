-- What is known of the shift of process p of a world to machine `to` (this project's).
use Rattle.std.specs.Prelude.{◌≡◌, ◌≢◌, ℕ, ◌+◌, ◌<◌, ◌≤◌, true, Option, Some}
use Rattle.ra_base.specs.declared.causes.Cause.{Cause}
use Rattle.ra_base.specs.declared.causes.Cause.TheVariants.{Capacity, Transient}
use Rattle.ra_model.specs.Numbers.{resource_count, requirement_of, capacity_of, transient_at}
use Rattle.ra_model.specs.Assignments.{machine_at}
use Rattle.ra_model.specs.Usage.{use_of, transient_of}
use Rattle.ra_model.specs.Situations.{Situation}
use Rattle.ra_moves.specs.Judging.{broken_by}
use Rattle.ra_shift.specs.Arriving.{steps_to, BreaksNothing}
use Rattle.ra_shift.specs.Conditions.{HasRoom, HasRoomBetween, IsAlone, KeepsSpread}
use Rattle.ra_shift.specs.declared.finding.Finding.{Finding}
use Rattle.ra_shift.specs.declared.finding.Finding.TheVariants.{Broken, Unbroken, BrokenElsewhere}

-- the cause for which the shift is refused, if there is one
abbrev pub cause_of : Situation → ℕ → ℕ → Option Cause
cause_of st p to = broken_by st (steps_to st p to)

-- the shift breaks a dependency or enters a closed machine, and breaks no earlier constraint
pub record IsBrokenElsewhere (st : Situation) (p to : ℕ) : Type 0 where
  pub apart : machine_at st.here p ≢ to
  pub room : HasRoom st.tables st.here p to
  pub between : HasRoomBetween st p to
  pub alone : IsAlone st.tables st.here p to
  pub spread : KeepsSpread st.tables st.here p to
  pub broken : BreaksNothing st p to → ⊥

-- the shift is refused for the cause that is told, or breaks nothing, or breaks a dependency or enters a closed machine
unfoldable pub IsFinding : Situation → ℕ → ℕ → Finding → Type 0
IsFinding st p to (Broken cause) = cause_of st p to ≡ Some cause
IsFinding st p to Unbroken = BreaksNothing st p to
IsFinding st p to BrokenElsewhere = IsBrokenElsewhere st p to

-- how much of resource r the machine uses with p, after the shift and while p moves there
abbrev pub used_with : Situation → ℕ → ℕ → ℕ → ℕ
used_with st p to r = use_of st.tables st.here to r + requirement_of st.tables p r

abbrev pub used_between : Situation → ℕ → ℕ → ℕ → ℕ
used_between st p to r =
    transient_of st.tables st.start st.here to r + requirement_of st.tables p r

-- the cause names the first resource of which the machine would use more than its capacity
pub record IsOver (st : Situation) (p to : ℕ) (cause : Cause) : Type 0 where
  pub r : ℕ
  pub within : r < resource_count st.tables
  pub before : (k : ℕ) → k < r → used_with st p to k ≤ capacity_of st.tables to k
  pub above : capacity_of st.tables to r < used_with st p to r
  pub named : cause ≡ Capacity (record { 0 = to }) (record { 0 = r }) (used_with st p to r)
      (capacity_of st.tables to r)

-- the cause names the first transient resource of which the machine would use more than its capacity while p moves
-- there, if p isn't initially there
pub record IsOverBetween (st : Situation) (p to : ℕ) (cause : Cause) : Type 0 where
  pub r : ℕ
  pub within : r < resource_count st.tables
  pub away : machine_at st.start p ≢ to
  pub transient : transient_at st.tables r ≡ true
  pub before : (k : ℕ) → k < r → transient_at st.tables k ≡ true
      → used_between st p to k ≤ capacity_of st.tables to k
  pub above : capacity_of st.tables to r < used_between st p to r
  pub named : cause ≡ Transient (record { 0 = to }) (record { 0 = r }) (used_between st p to r)
      (capacity_of st.tables to r)
