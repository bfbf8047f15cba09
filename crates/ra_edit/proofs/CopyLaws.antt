-- The processes of an instance, read item by item.
use Rattle.std.proofs.Common.{◌≡◌, ℕ, ◌+◌, ◌*◌, ◌/◌, ◌%◌, ◌<◌, List, [], ◌∷◌, ◌++◌, length, take, get_or, sym, ◌∙◌}
use Rattle.std.proofs.Common.{arith}
use Rattle.std.proofs.Math.Nat.{div-lt_iff_lt-mul, div-add-mod}
use Rattle.std.proofs.lemmas.Nat.{mod_below}
use Rattle.std.proofs.lemmas.List.{take_more, take_all}
use Rattle.ra_base.specs.Tables.{cell}
use Rattle.ra_model.specs.declared.raw.ProcessRow.{ProcessRow}
use Rattle.ra_model.specs.declared.raw.Tables.{Tables}
use Rattle.ra_model.specs.Limits.{WellFormed}
use Rattle.ra_model.specs.Numbers.{resource_count, process_count, process_row, service_of, process_cost_of}
use Rattle.ra_model.specs.Numbers.{requirement_of}
use Rattle.ra_edit.proofs.RowLaws.{process_same}

-- one more item
next : {X : Type 0} → (all so_far : List X) (n : ℕ) (x d : X) → so_far ≡ take n all → n < length all →
    x ≡ get_or all n d → so_far ++ x ∷ [] ≡ take (n + 1) all
next all so_far n x d before within here = rw (before, here) (sym (take_more all n d within))

-- all items
whole : {X : Type 0} → (all so_far : List X) (n : ℕ) → so_far ≡ take n all → n ≡ length all → so_far ≡ all
whole all so_far n before same = before ∙ take_all n all (omega arith)

pub process_more : (i : Tables) (p : ℕ) (rows : List ProcessRow) (row : ProcessRow) →
    rows ≡ take p i.raw.processes.items → p < process_count i → row.service.0 ≡ service_of i p →
    row.move_cost ≡ process_cost_of i p → rows ++ row ∷ [] ≡ take (p + 1) i.raw.processes.items
unfolding process_count service_of process_cost_of process_row
process_more i p rows row before within e f =
    next i.raw.processes.items rows p row _ before within (process_same row (process_row i p) e f)

pub process_whole : (i : Tables) (n : ℕ) (rows : List ProcessRow) → rows ≡ take n i.raw.processes.items →
    n ≡ process_count i → rows ≡ i.raw.processes.items
unfolding process_count
process_whole i n rows before same = whole i.raw.processes.items rows n before same

-- tables: place k of a table is at row k / width and column k % width

pub quotient_below : (k width n : ℕ) → k < n * width → 0 < width → k / width < n
quotient_below k width n below some = (div-lt_iff_lt-mul some).1 below

pub rest_below : (k width : ℕ) → 0 < width → k % width < width
rest_below k width some = mod_below k width some

-- a table with a place has columns
pub some_width : (k n width : ℕ) → k < n * width → 0 < width
some_width k n width below = grind arith

pub row_below : {n all : ℕ} (k width : ℕ) → k < n * width → n ≡ all → k / width < all
row_below {n} k width below same = rw (← same) (quotient_below k width n below (some_width k n width below))

pub column_below : {width all : ℕ} (k n : ℕ) → k < n * width → width ≡ all → k % width < all
column_below {width} k n below same = omega (arith, same, rest_below k width (some_width k n width below))

place_of : (k width : ℕ) → k / width * width + k % width ≡ k
place_of k width = grind (arith, div-add-mod k width)

cell_here : (table : List ℕ) (k width : ℕ) → cell width table (k / width) (k % width) ≡ get_or table k 0
unfolding cell
cell_here table k width = cc (place_of k width)

pub requirement_more : (i : Tables) (k v : ℕ) (table : List ℕ) → WellFormed i →
    table ≡ take k i.raw.requirements.items → k < process_count i * resource_count i →
    v ≡ requirement_of i (k / resource_count i) (k % resource_count i) →
    table ++ v ∷ [] ≡ take (k + 1) i.raw.requirements.items
unfolding requirement_of
requirement_more i k v table well before within e =
    next i.raw.requirements.items table k v 0 before (omega (arith, well.requirements))
    (e ∙ cell_here i.raw.requirements.items k (resource_count i))

pub requirement_whole : (i : Tables) (n : ℕ) (table : List ℕ) → WellFormed i → table ≡ take n i.raw.requirements.items →
    n ≡ process_count i * resource_count i → table ≡ i.raw.requirements.items
requirement_whole i n table well before same =
    whole i.raw.requirements.items table n before (same ∙ sym well.requirements)

-- what the loops need
pub ruleset processes = (process_more, process_whole)

pub ruleset requirements = (requirement_more, requirement_whole, quotient_below, rest_below)
