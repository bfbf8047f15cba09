-- Rows and tables that are listed by number.
use Rattle.std.proofs.Common.{◌≡◌, ℕ, ◌+◌, ◌*◌, ◌/◌, ◌%◌, ◌<◌, List, length, map, get_or, sym, ap, ap₂, ◌∙◌, arith}
use Rattle.std.proofs.lemmas.List.{get_or-map, length-map}
use Rattle.std.proofs.lemmas.Nat.{div-mul-add, mod-mul-add}
use Rattle.ra_base.specs.Tables.{cell}
use Rattle.ra_base.proofs.Tables.{place_within, cell_is}
use Rattle.ra_trial.specs.Lines.{listed}
use Rattle.ra_trial.specs.Instances.{table_of}
use Rattle.ra_trial.proofs.LineLemmas.{length_listed, listed_at}

module _ {X Y : Type 0} (f : X → Y) (rows : List X) {n : ℕ} (g : ℕ → Y) where
  -- as many rows as are listed, and row k
  pub rows_many : map f rows ≡ listed n g → length rows ≡ n
  rows_many same = sym (length-map rows f) ∙ ap length same ∙ length_listed n g

  pub row_is : {k : ℕ} (d : X) → map f rows ≡ listed n g → k < n → f (get_or rows k d) ≡ g k
  row_is {k} d same within =
      sym (get_or-map f rows k d _ (omega (arith, rows_many same)))
      ∙ ap (λ xs. get_or xs k (g k)) same
      ∙ listed_at n g k _ within

module _ (rows width : ℕ) (f : ℕ → ℕ → ℕ) where
  -- the cells of a table
  pub table_many : length (table_of rows width f) ≡ rows * width
  unfolding table_of
  table_many = length_listed (rows * width) (λ k. f _ _)

  table_at : {row column : ℕ} → row < rows → column < width →
      get_or (table_of rows width f) (row * width + column) 0 ≡ f row column
  unfolding table_of
  table_at {row} {column} row_in column_in = grind (arith, listed_at, place_within, div-mul-add, mod-mul-add)

pub cell_at : {counted rows width : ℕ} {table : List ℕ} (f : ℕ → ℕ → ℕ) {row column : ℕ} → counted ≡ width →
    table ≡ table_of rows width f → row < rows → column < width → cell counted table row column ≡ f row column
cell_at {counted} {rows} {width} {table} f {row} {column} count same row_in column_in = grind (arith, cell_is, table_at)
