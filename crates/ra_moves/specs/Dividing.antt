-- A number with its inverse, so that remainders by it take no division.
use Rattle.std.specs.Prelude.{ℕ, ◌+◌, ◌*◌, ◌^◌, ◌<◌, ◌≤◌}

-- a number, and how often it goes into 2^64 - 1
pub record IsInverse (number inverse : ℕ) : Type 0 where
  pub some : 1 ≤ number
  pub below : inverse * number < 2 ^ 64
  pub above : 2 ^ 64 ≤ inverse * number + number
