-- A machine's row of use as processes come and go.
use Rattle.std.specs.Prelude.{◌≡◌, ℕ, ◌+◌, ◌<◌, ◌≤◌, ◌^◌, List, length, slice_index, if◌then◌else◌, ◌==◌}

-- an amount at one machine, and zero at all others
unfoldable pub share_at : ℕ → ℕ → ℕ → ℕ
share_at at m amount = if at == m then amount else 0

-- each number of a row has grown by its amount
pub record HasMoreInRow (old new amounts : List ℕ) : Type 0 where
  pub same_length : length new ≡ length old
  pub each : (r : ℕ) → r < length old
      → slice_index new r ≡ slice_index old r + slice_index amounts r

-- each number of a row has grown by its amount if the row is that of one machine, and else it stays
pub record HasMoreInRowAt (at m : ℕ) (old new amounts : List ℕ) : Type 0 where
  pub same_length : length new ≡ length old
  pub each : (r : ℕ) → r < length old
      → slice_index new r ≡ slice_index old r + share_at at m (slice_index amounts r)

-- the amounts have left one machine for another: what the row of machine m has then
pub record RowHasFollowed (from to m : ℕ) (old new amounts : List ℕ) : Type 0 where
  pub same_length : length new ≡ length old
  pub each : (r : ℕ) → r < length old
      → slice_index new r + share_at from m (slice_index amounts r)
      ≡ slice_index old r + share_at to m (slice_index amounts r)

-- the amounts can leave one machine for another: there is room for what comes, and what goes is there
pub record CanFollow (from to m : ℕ) (row amounts : List ℕ) : Type 0 where
  pub room : (r : ℕ) → r < length row → slice_index row r < 2 ^ 63
  pub enough : (r : ℕ) → r < length row
      → share_at from m (slice_index amounts r)
      ≤ slice_index row r + share_at to m (slice_index amounts r)
