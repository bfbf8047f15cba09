-- Moves by which two processes exchange their machines.
use Rattle.std.specs.Prelude.{◌≡◌, ◌≢◌, ℕ, ◌+◌, ◌<◌, List, length, slice_index}
use Rattle.ra_moves.specs.declared.steps.Step.{Step}
use Rattle.ra_moves.specs.Steps.{from_in, to_in}

-- two processes on different machines, each of which goes to the machine of the other
pub record IsExchange (steps : List Step) : Type 0 where
  pub two : length steps ≡ 2
  pub there : to_in steps 0 ≡ from_in steps 1
  pub back : to_in steps 1 ≡ from_in steps 0
  pub apart : from_in steps 0 ≢ to_in steps 0

-- machine m is one of the two: the process of one step comes to it, and that of the other step goes
pub record IsExchangedAt (steps : List Step) (m comes goes : ℕ) : Type 0 where
  pub exchange : IsExchange steps
  pub other : comes + goes ≡ 1
  pub here : from_in steps goes ≡ m

-- each number of a row has grown by what has come, minus what has gone
pub record HasExchanged (old new come gone : List ℕ) : Type 0 where
  pub same_length : length new ≡ length old
  pub each : (r : ℕ) → r < length old
      → slice_index new r + slice_index gone r ≡ slice_index old r + slice_index come r
