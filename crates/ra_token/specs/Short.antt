-- Blocks of numbers with few digits.
use Rattle.std.specs.Prelude.{◌≡◌, ℕ, ◌+◌, ◌-◌, ◌*◌, ◌<◌, ◌≤◌, true, false, if◌then◌else◌, List, length, slice_index}
use Rattle.std.specs.Int.{bit_at}
use Rattle.ra_token.specs.Runs.{digit_at, is_blank}

-- sixty-four numbers side by side
pub record HasSixtyFourLanes (lanes : List ℕ) (f : ℕ → ℕ) : Type 0 where
  pub many : length lanes ≡ 64
  pub each : (k : ℕ) → k < 64 → slice_index lanes k ≡ f k

-- what the three digits that end at an index are worth; digits before a blank don't count
unfoldable pub short_worth : List ℕ → ℕ → ℕ
short_worth bytes k =
    (slice_index bytes k - 48) + (slice_index bytes (k - 1) - 48) * 10
    + (slice_index bytes (k - 2) - 48 - (48 - slice_index bytes (k - 1))) * 100

-- a bit for each of the 64 bytes from an index on, set if the byte is not a digit
abbrev pub Tells : List ℕ → ℕ → ℕ → Type 0
Tells bytes from bits =
    (k : ℕ) → k < 64 → bit_at bits k ≡ (if digit_at bytes (from + 1 + k) then 0 else 1)

-- the lowest bit isn't set, and no two neighbouring bits are
pub record AreApart (bits : ℕ) : Type 0 where
  pub lowest : bit_at bits 0 ≡ 0
  pub next : (k : ℕ) → k < 63 → bit_at bits k ≡ 1 → bit_at bits (k + 1) ≡ 0

-- of any four neighbouring bits one is set
abbrev pub AreShort : ℕ → Type 0
AreShort bits =
    (k : ℕ) → k < 61 → bit_at bits k ≡ 0 → bit_at bits (k + 1) ≡ 0 → bit_at bits (k + 2) ≡ 0
    → bit_at bits (k + 3) ≡ 1

-- a blank, and after it 64 bytes that are numbers of at most three digits with one blank between two of them
pub record IsTidy (bytes : List ℕ) (from : ℕ) : Type 0 where
  pub before : slice_index bytes (from - 1) ≤ 57
  pub here : is_blank (slice_index bytes from) ≡ true
  pub blank : (k : ℕ) → k < 64 → digit_at bytes (from + 1 + k) ≡ false
      → is_blank (slice_index bytes (from + 1 + k)) ≡ true
  pub first : digit_at bytes (from + 1) ≡ true
  pub alone : (k : ℕ) → k < 63 → digit_at bytes (from + 1 + k) ≡ false
      → digit_at bytes (from + 1 + (k + 1)) ≡ true
  pub short : (k : ℕ) → k < 61 → digit_at bytes (from + 1 + k) ≡ true
      → digit_at bytes (from + 1 + (k + 1)) ≡ true → digit_at bytes (from + 1 + (k + 2)) ≡ true
      → digit_at bytes (from + 1 + (k + 3)) ≡ false
