-- Tables of numbers in one flat list, row after row.
use Rattle.std.specs.Prelude.{ℕ, ◌+◌, ◌*◌, List, slice_index_or}

-- what a table of this width has at a row and a column, and zero past its end
unfoldable pub cell : ℕ → List ℕ → ℕ → ℕ → ℕ
cell width table row column = slice_index_or table (row * width + column) 0
