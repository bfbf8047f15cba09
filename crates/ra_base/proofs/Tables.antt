-- Laws of `cell`: places in a flat table, and what a write leaves.
use Rattle.std.proofs.Common.{◌≡◌, ℕ, ◌+◌, ◌-◌, ◌*◌, ◌^◌, ◌<◌, ◌≤◌, ◌≢◌, ◌⊎◌, cond, eqb, ◌&&◌, List, [], ◌∷◌, ◌++◌}
use Rattle.std.proofs.Common.{length, get_or, set, replicate, inl, inr, refl, arith, eq-eqb}
use Rattle.std.proofs.Common.{get_or-set_other, get_or-set_same, length-take, length-drop}
use Rattle.std.proofs.lemmas.Bool.{and_from, and_left, and_right}
use Rattle.std.proofs.lemmas.List.{get_or-replicate, get_or_append_left, get_or_past, get_or-take, get_or-drop}
use Rattle.std.proofs.lemmas.List.{length-replicate}
use Rattle.std.specs.List.{slice_range}
use Rattle.std.proofs.Math.Seq.{get_or-append_seam}
use Rattle.std.proofs.lemmas.Nat.{same_from_place, mul-le}
use Rattle.ra_base.specs.Tables.{cell}

-- the place of row i and column j lies within m rows of width n
pub place_within : (i j m n : ℕ) → i < m → j < n → i * n + j < m * n
place_within i j m n row column = grind arith

-- a place of numbers of 32 bits has 64 bits
pub place_small : (width row column : ℕ) → width < 2 ^ 32 → row < 2 ^ 32 → column < 2 ^ 32 →
    row * width + column < 2 ^ 64
place_small width row column wide row_in column_in =
    omega (arith, mul-le row width (2 ^ 32 - 1) (2 ^ 32 - 1) (omega arith) (omega arith))

module _ (i j k l n : ℕ) (column : j < n) (other : l < n) where
  -- two places that are one have one row and one column
  pub place_same : i * n + j ≡ k * n + l → (i ≡ k) × (j ≡ l)
  place_same e = same_from_place i j k l n column other e

  -- two rows, or two columns, have two places
  pub place_apart : (i ≢ k) ⊎ (j ≢ l) → i * n + j ≢ k * n + l
  place_apart apart e = grind (arith, place_same)

module _ (width : ℕ) (table : List ℕ) (row column : ℕ) where
  pub cell_is : cell width table row column ≡ get_or table (row * width + column) 0
  unfolding cell
  cell_is = refl

  -- what was written is there
  pub cell_write_same : (value : ℕ) → row * width + column < length table →
      cell width (set table (row * width + column) value) row column ≡ value
  unfolding cell
  cell_write_same value within = get_or-set_same table (row * width + column) value 0 within

  -- another place is as it was
  pub cell_write_other : (value other_row other_column : ℕ) → column < width → other_column < width →
      (other_row ≢ row) ⊎ (other_column ≢ column) →
      cell width (set table (row * width + column) value) other_row other_column ≡ cell width table other_row
      other_column
  unfolding cell
  cell_write_other value other_row other_column within other_within apart =
      get_or-set_other table (row * width + column) (other_row * width + other_column) value 0
      (place_apart other_row other_column row column width other_within within apart)

  module _ (value other_row other_column : ℕ) (column_in : column < width) (other_in : other_column < width) where
    -- every cell after a write
    pub cell_write : row * width + column < length table →
        cell width (set table (row * width + column) value) other_row other_column ≡
        cond (eqb other_row row && eqb other_column column) value (cell width table other_row other_column)
    cell_write within = grind (arith, cell_write_same, and_from, eq-eqb, cell_write_other, and_right, and_left)

    -- another row, or another column, is as it was
    pub cell_write_other_row : other_row ≢ row →
        cell width (set table (row * width + column) value) other_row other_column ≡ cell width table other_row
        other_column
    cell_write_other_row apart =
        cell_write_other value other_row other_column column_in other_in (inl apart)

    pub cell_write_other_column : other_column ≢ column →
        cell width (set table (row * width + column) value) other_row other_column ≡ cell width table other_row
        other_column
    cell_write_other_column apart =
        cell_write_other value other_row other_column column_in other_in (inr apart)

  -- past its end a table has zeros
  pub cell_past : length table ≤ row * width + column → cell width table row column ≡ 0
  unfolding cell
  cell_past past = get_or_past table (row * width + column) 0 past

-- a list of zeros, and a table of zeros

pub zeros_at : (n k : ℕ) → get_or {A = ℕ} (replicate n 0) k 0 ≡ 0
zeros_at n k = grind (arith, get_or-replicate, get_or_past, length-replicate)

pub cell_zeros : (width n row column : ℕ) → cell width (replicate n 0) row column ≡ 0
unfolding cell
cell_zeros width n row column = zeros_at n (row * width + column)

-- a table of one value
pub cell_new : (width height value row column : ℕ) → row < height → column < width →
    cell width (replicate (height * width) value) row column ≡ value
unfolding cell
cell_new width height value row column row_in column_in = grind (arith, get_or-replicate, place_within)

module _ (width : ℕ) (table : List ℕ) (value row column : ℕ) where
  -- a table that grows: the cells so far, and the new one
  pub cell_push_before : row * width + column < length table →
      cell width (table ++ value ∷ []) row column ≡ cell width table row column
  unfolding cell
  cell_push_before within = grind (arith, get_or_append_left)

  pub cell_push_here : row * width + column ≡ length table → cell width (table ++ value ∷ []) row column ≡ value
  unfolding cell
  cell_push_here here = grind (arith, get_or-append_seam)

module _ (width row : ℕ) (table : List ℕ) where
  -- a row, as it is read

  pub row_length : row * width + width ≤ length table →
      length (slice_range table (row * width) (row * width + width)) ≡ width
  row_length within = omega (arith, length-take {A = ℕ}, length-drop {A = ℕ})

  pub row_cell : (column : ℕ) → column < width →
      get_or (slice_range table (row * width) (row * width + width)) column 0 ≡ cell width table row column
  row_cell column inside = grind (arith, get_or-take, get_or-drop, cell_is)

-- where a cell is, and that it is within the table
pub ruleset cells = (cell_is, place_within)
