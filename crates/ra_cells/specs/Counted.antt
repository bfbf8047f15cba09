-- How many services have each moved count, and the greatest of the counts.
use Rattle.std.specs.Prelude.{◌≡◌, ℕ, ◌+◌, ◌<◌, ◌≤◌, ◌==◌, List, length, slice_index}
use Rattle.ra_base.specs.Sums.{one_if, count, greatest}

-- number v of a list says how many of the counts are v
pub record AreTallied (counts tallies : List ℕ) (limit : ℕ) : Type 0 where
  pub few : length counts ≤ 50000
  pub one_each : length tallies ≡ limit + 1
  pub within : (s : ℕ) → s < length counts → slice_index counts s ≤ limit
  pub each : (v : ℕ) → v ≤ limit
      → slice_index tallies v ≡ count (length counts) (λ s. slice_index counts s == v)

-- number v of a list says how many of the counts are v, and `most` is the greatest count
pub record AreCounted (counts tallies : List ℕ) (limit most : ℕ) : Type 0 where
  pub tallied : AreTallied counts tallies limit
  pub greatest_is : most ≡ greatest (length counts) (slice_index counts)

-- one count has changed from `left` to `come`
pub record AreRetallied (old new : List ℕ) (left come : ℕ) : Type 0 where
  pub same_length : length new ≡ length old
  pub changed : (v : ℕ)
      → slice_index new v + one_if (left == v) ≡ slice_index old v + one_if (come == v)
