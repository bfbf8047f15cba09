-- One cell is changed: what that says of a column.
use Rattle.std.proofs.Common.{◌≡◌, ◌≢◌, ℕ, ◌+◌, ◌*◌, ◌<◌, inr, List, length, set, refl}
use Rattle.std.proofs.Common.{sym, ◌∙◌, arith, eq-eqb, ne_eqb, length-set}
use Rattle.std.proofs.lemmas.Bool.{cond-true, cond-false}
use Rattle.ra_base.specs.Tables.{cell}
use Rattle.ra_base.proofs.Tables.{cell_write_same, cell_write_other, place_within}
use Rattle.ra_rows.specs.Changes.{at_row, away_row, HasMore, Moves}

module _ (at amount m : ℕ) where
  -- an amount at one row

  pub at_row_here : at ≡ m → at_row at amount m ≡ amount
  unfolding at_row
  at_row_here here = cond-true _ _ _ (eq-eqb at m here)

  pub at_row_elsewhere : at ≢ m → at_row at amount m ≡ 0
  unfolding at_row
  at_row_elsewhere apart = cond-false _ _ _ (ne_eqb at m apart)

module _ (home at amount m : ℕ) where
  pub away_row_home : home ≡ at → away_row home at amount m ≡ 0
  unfolding away_row
  away_row_home here = cond-true _ _ _ (eq-eqb home at here)

  pub away_row_other : home ≢ at → away_row home at amount m ≡ at_row at amount m
  unfolding away_row
  away_row_other apart = cond-false _ _ _ (ne_eqb home at apart)

module _ (width row column value : ℕ) where
  -- a number of a column is written
  write_column : (extra m : ℕ) (table : List ℕ) → column < width → row * width + column < length table →
      value ≡ cell width table row column + extra →
      cell width (set table (row * width + column) value) m column ≡ cell width table m column + at_row row extra m
  write_column extra m table inside within is = grind (
    arith,
    cell_write_same,
    at_row_here,
    cell_write_other,
    at_row_elsewhere,
  )

  lower_column : (less m : ℕ) (table : List ℕ) → column < width → row * width + column < length table →
      value + less ≡ cell width table row column →
      cell width table m column ≡ cell width (set table (row * width + column) value) m column + at_row row less m
  lower_column less m table inside within is = grind (
    arith,
    cell_write_same,
    at_row_here,
    cell_write_other,
    at_row_elsewhere,
  )

  module _ (amount : ℕ) (old new : List ℕ) (inside : column < width) (within : row * width + column < length old) where
    pub cell_raised : value ≡ cell width old row column + amount → new ≡ set old (row * width + column) value →
        HasMore width column (at_row row amount) old new
    cell_raised is written = rw written (record {
      here = λ m. write_column amount m old inside within is;
      others = λ m r w apart. cell_write_other width old row column value m r inside w (inr apart);
      same_length = length-set old (row * width + column) value;
    })

    pub cell_lowered : value + amount ≡ cell width old row column → new ≡ set old (row * width + column) value →
        HasMore width column (at_row row amount) new old
    cell_lowered is written = rw written (record {
      here = λ m. lower_column amount m old inside within is;
      others = λ m r w apart. sym (cell_write_other width old row column value m r inside w (inr apart));
      same_length = sym (length-set old (row * width + column) value);
    })

module _ (width : ℕ) where
  -- a part leaves one row, and another comes to another row
  pub moved : (column : ℕ) (left come : ℕ → ℕ) (old mid new : List ℕ) → HasMore width column left mid old →
      HasMore width column come mid new → Moves width column left come old new
  moved column left come old mid new lower raise = record {
    here = λ m. omega (arith, lower.here m, raise.here m);
    others = λ m r w apart. raise.others m r w apart ∙ sym (lower.others m r w apart);
    same_length = raise.same_length ∙ sym lower.same_length;
  }

  module _ (column home at amount : ℕ) where
    -- the home row keeps what it has
    pub more_at_home : (table : List ℕ) → home ≡ at → HasMore width column (away_row home at amount) table table
    more_at_home table here = record {
      here = λ m. omega (arith, away_row_home);
      others = λ m r w apart. refl;
      same_length = refl;
    }

    pub more_away : (low high : List ℕ) → home ≢ at → HasMore width column (at_row at amount) low high →
        HasMore width column (away_row home at amount) low high
    more_away low high apart more = record {
      here = λ m. omega (arith, more.here m, away_row_other);
      others = more.others;
      same_length = more.same_length;
    }

module _ (height width row : ℕ) where
  -- a place within a grid
  pub grid_place : (column size : ℕ) → size ≡ height * width → row < height → column < width →
      row * width + column < size
  grid_place column size grid row_in column_in =
      rw grid (place_within row column height width row_in column_in)
