-- The steps of a move as they are read once, and what they bring to a machine and take from it.
use Rattle.std.specs.Prelude.{◌≡◌, ◌≢◌, ℕ, ◌+◌, ◌<◌, Bool, List, length, slice_index, if◌then◌else◌}
use Rattle.ra_base.specs.Sums.{total}
use Rattle.ra_model.specs.declared.raw.Tables.{Tables}
use Rattle.ra_model.specs.Numbers.{resource_count}
use Rattle.ra_moves.specs.declared.steps.Step.{Step}
use Rattle.ra_moves.specs.Steps.{step_at}
use Rattle.ra_moves.specs.Touched.{service_in}
use Rattle.ra_moves.specs.Values.{gone, come}

-- the first ones of a list are the steps of a move
pub record AreFirstSteps (steps all : List Step) : Type 0 where
  pub each : (j : ℕ) → j < length steps → step_at all j ≡ step_at steps j

-- zero of each resource
pub record AreNone (amounts : List ℕ) : Type 0 where
  pub each : (r : ℕ) → r < length amounts → slice_index amounts r ≡ 0

-- each amount is increased by another one, if that one comes as well
pub record HasAlso (also : Bool) (more old new : List ℕ) : Type 0 where
  pub one_each : length new ≡ length old
  pub each : (r : ℕ) → r < length old
      → slice_index new r ≡ slice_index old r + (if also then slice_index more r else 0)

-- for each resource, what comes minus what goes is what the first n steps add to shares of it minus what they take
pub record HasFlow (i : Tables) (share : ℕ → ℕ → ℕ → ℕ) (steps : List Step) (n : ℕ)
    (coming going : List ℕ) : Type 0 where
  pub come_width : length coming ≡ resource_count i
  pub gone_width : length going ≡ resource_count i
  pub each : (r : ℕ) → r < resource_count i
      → slice_index coming r + total n (gone (share r) steps)
      ≡ slice_index going r + total n (come (share r) steps)

-- of the first n steps only step j moves a process of service s
pub record MoveAlone (i : Tables) (steps : List Step) (j s n : ℕ) : Type 0 where
  pub others : (k : ℕ) → k < n → k ≢ j → service_in i steps k ≢ s
