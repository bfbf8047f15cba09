-- Lists without an item, and tables without a row.
use Rattle.std.proofs.lemmas.Grind.{common_steps}
use Rattle.std.proofs.Common.{◌≡◌, ◌≢◌, ℕ, ◌+◌, ◌-◌, ◌*◌, ◌<◌, ◌≤◌, List, ◌++◌, length, take, drop, set, get_or, refl}
use Rattle.std.proofs.Common.{sym, ap, ◌∙◌, ⊎_elim, arith, length-append, length-drop, length-set}
use Rattle.std.proofs.Common.{get_or-set_same, get_or-set_other}
use Rattle.std.specs.List.{swap_remove}
use Rattle.std.proofs.lemmas.Bool.{cases_eq}
use Rattle.std.proofs.lemmas.List.{take_all, length-take-le, get_or-take, get_or_default}
use Rattle.ra_edit_read.specs.EditLists.{row_of}
use Rattle.ra_edit_read.proofs.ListLaws.{row_within, row_length}
use Rattle.ra_edit_read.proofs.FileLaws.{next_row}
use Rattle.ra_edit.specs.Editing.{put_row, drop_row}

pub removed_length : {X : Type 0} → (xs : List X) (p : ℕ) (d : X) → length (swap_remove xs p d) ≡ length xs - 1
removed_length xs p d = length-take-le (length xs - 1) (set xs p (get_or xs (length xs - 1) d))
    (omega (arith, length-set xs p (get_or xs (length xs - 1) d)))

-- each item that is left was there
pub removed_item : {X : Type 0} → (xs : List X) (p k : ℕ) (d e : X) → p < length xs → k < length xs - 1 → (j : ℕ)
    × (j < length xs) × (get_or (swap_remove xs p d) k e ≡ get_or xs j e)
removed_item xs p k d e within left =
    let last = length xs - 1 in
    let cut : get_or (swap_remove xs p d) k e ≡ get_or (set xs p (get_or xs last d)) k e = rw get_or-take refl in
    ⊎_elim
    (λ (here : k ≡ p). (
      last,
      omega arith,
      cut ∙ ap (λ n. get_or (set xs p (get_or xs last d)) n e) here
          ∙ get_or-set_same xs p (get_or xs last d) e within ∙ get_or_default xs last d e (omega arith),
    ))
    (λ (apart : k ≢ p). (k, omega arith, cut ∙ get_or-set_other xs p k (get_or xs last d) e apart))
    (cases_eq k p)

-- tables

-- other items in the place of a row
pub put_here : {w start : ℕ} (p : ℕ) (table row : List ℕ) → length row ≡ w → start ≡ p * w →
    take start table ++ (row ++ drop (start + length row) table) ≡ put_row w table p row
unfolding put_row
put_here p table row width same = rw (width, same) refl

pub put_length : (w n p : ℕ) (table row : List ℕ) → length table ≡ n * w → p < n → length row ≡ w →
    length (put_row w table p row) ≡ n * w
unfolding put_row
put_length w n p table row size within width =
    grind (arith, common_steps, row_within, length-take-le, length-drop, length-append)

all_rows : (n w : ℕ) → 0 < n → n * w ≡ (n - 1) * w + w
all_rows n w some =
    let e : n - 1 + 1 ≡ n = omega arith in rw e at (sym (next_row (n - 1) w))

last_row : (w n : ℕ) (table : List ℕ) → length table ≡ n * w → 0 < n → drop ((n - 1) * w) table ≡ row_of w table (n - 1)
unfolding row_of
last_row w n table size some = grind (arith, common_steps, row_within, take_all, length-drop, all_rows)

-- the last row is cut off, and takes the place of another one
pub last_within : (w n p size : ℕ) → size ≡ n * w → p < n → (n - 1) * w ≤ size
last_within w n p size same within = omega (arith, same, all_rows n w (omega arith))

pub last_fits : (w n p size : ℕ) → size ≡ n * w → p < n → p * w + (size - (n - 1) * w) ≤ size
last_fits w n p size same within = omega (arith, same, all_rows n w (omega arith), row_within n w p within)

pub dropped_is : (w n p : ℕ) (table after : List ℕ) → length table ≡ n * w → p < n →
    after ≡ take ((n - 1) * w) (take (p * w) table ++ (drop ((n - 1) * w) table ++ drop
    (p * w + (length table - (n - 1) * w)) table)) → after ≡ drop_row w table n p
unfolding drop_row put_row
dropped_is w n p table after size within is =
    let width : length table - (n - 1) * w ≡ w = omega (arith, size, all_rows n w (omega arith)) in
    rw (width, last_row w n table size (omega arith)) at is

pub dropped_length : (w n p : ℕ) (table : List ℕ) → length table ≡ n * w → p < n →
    length (drop_row w table n p) ≡ (n - 1) * w
unfolding drop_row
dropped_length w n p table size within = grind (arith, common_steps, length-take-le, put_length, row_length, row_within)

-- a part of a row's length is within the table
pub part_within : (n w p s m size : ℕ) → s ≡ w → size ≡ n * w → p < n → m ≡ w → p * s + m ≤ size
part_within n w p s m size same all within width = rw (same, width, all) (row_within n w p within)

-- rows of fewer processes than there is room for
pub rows_fit : {w size s : ℕ} (n : ℕ) → n ≤ 50000 → size ≡ n * w → s ≡ w → size ≤ 50000 * s
rows_fit {w} n few same width = grind (arith, common_steps)

pub row_fits : (n w size m room : ℕ) → n < 50000 → size ≡ n * w → m ≡ w → room ≡ 50000 * w → size + m ≤ room
row_fits n w size m room few same width all = rw (same, width, all) (row_within 50000 w n few)
