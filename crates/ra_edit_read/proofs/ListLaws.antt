-- Reads of edits and of rows of requirements.
use Rattle.std.proofs.Common.{◌≡◌, ℕ, ◌+◌, ◌-◌, ◌*◌, ◌<◌, ◌≤◌, List, length, take, drop, get_or, refl, ap, arith}
use Rattle.std.proofs.Common.{length-take, length-drop}
use Rattle.std.proofs.lemmas.List.{get_or_read, get_or-take, get_or-drop}
use Rattle.ra_base.specs.Tables.{cell}
use Rattle.ra_edit_read.specs.declared.edits.Edit.{Edit}
use Rattle.ra_edit_read.specs.declared.edits.Edit.TheVariants.{Retire}
use Rattle.ra_edit_read.specs.EditLists.{EditLists, edit_at, row_of}

pub edit_read : (e : EditLists) (k : ℕ) (x : Edit) → k < length e.edits → x ≡ get_or e.edits k x → x ≡ edit_at e k
unfolding edit_at
edit_read e k x within read = get_or_read e.edits k x within read (Retire 0)

pub row_cut : (w k : ℕ) (table : List ℕ) → take (k * w + w - k * w) (drop (k * w) table) ≡ row_of w table k
unfolding row_of
row_cut w k table = ap (λ n. take n (drop (k * w) table)) (let e : k * w + w - k * w ≡ w = omega arith in e)

-- a row ends within its table
pub row_within : (n w k : ℕ) → k < n → k * w + w ≤ n * w
row_within n w k within = grind arith

pub row_length : (table : List ℕ) (n w k : ℕ) → length table ≡ n * w → k < n → length (row_of w table k) ≡ w
unfolding row_of
row_length table n w k size within = let e = row_within n w k within in grind (arith, length-take, length-drop)

pub row_cell : (w k r : ℕ) (table : List ℕ) → r < w → get_or (row_of w table k) r 0 ≡ cell w table k r
unfolding row_of cell
row_cell w k r table within = rw (get_or-take, get_or-drop) refl
