-- Searches that look only at places that pass a test.
use Rattle.std.specs.Prelude.{◌≡◌, ℕ, ◌<◌, ◌≤◌, Bool, false, Option, None}
use Rattle.ra_base.specs.Searches.{first}
use Rattle.ra_base.specs.declared.causes.Cause.{Cause}

-- no place from low on and below high passes the test
pub record ClearTo (test : ℕ → Bool) (low high : ℕ) : Type 0 where
  pub between : (k : ℕ) → low ≤ k → k < high → test k ≡ false

-- nothing was found below low, which is at most n
pub record Sought (n : ℕ) (found : ℕ → Option Cause) (low : ℕ) : Type 0 where
  pub within : low ≤ n
  pub none : first low found ≡ None
