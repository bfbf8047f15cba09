-- What an edit makes of the lists, list by list.
use Rattle.std.proofs.Common.{◌≡◌, ℕ, ◌+◌, ◌*◌, List, [], ◌∷◌, ◌++◌, length, take, drop, refl}
use Rattle.std.specs.List.{swap_remove}
use Rattle.ra_base.specs.declared.ids.Machine.{Machine}
use Rattle.ra_model.specs.declared.raw.ProcessRow.{ProcessRow}
use Rattle.ra_model.specs.declared.raw.Tables.{Tables}
use Rattle.ra_model.specs.Numbers.{resource_count}
use Rattle.ra_edit.specs.Drafts.{Drafted}
use Rattle.ra_edit.specs.Editing.{process_of, drop_row, added, retired, resized}
use Rattle.ra_edit.proofs.DraftLaws.{row_is}
use Rattle.ra_edit.proofs.ListLaws.{put_here}

-- a draft of an instance with these lists
abbrev pub draft_with : Tables → List ProcessRow → List ℕ → List Machine → List Machine → Drafted
draft_with i rows requirements initial current =
    record { origin = i; rows = rows; requirements = requirements; initial = initial; current = current }

pub added_is : {rows : List ProcessRow} {table : List ℕ} {initial current : List Machine} (d : Drafted)
    (row : ProcessRow) (m : Machine) (requirements : List ℕ) → rows ≡ d.rows ++ row ∷ [] →
    table ≡ d.requirements ++ requirements → initial ≡ d.initial ++ m ∷ [] → current ≡ d.current ++ m ∷ [] →
    draft_with d.origin rows table initial current ≡ added d row.service m row.move_cost requirements
unfolding added
added_is d row m requirements e f g h = rw (e, f, g, h, ← row_is row) refl

pub retired_is : {w n : ℕ} {rows : List ProcessRow} {table : List ℕ} {initial current : List Machine} (d : Drafted)
    (p : ℕ) →
    rows ≡ swap_remove d.rows p (process_of (record { 0 = 0 }) 0) → table ≡ drop_row w d.requirements n p →
    w ≡ resource_count d.origin → n ≡ length d.rows → initial ≡ swap_remove d.initial p (record { 0 = 0 }) →
    current ≡ swap_remove d.current p (record { 0 = 0 }) →
    draft_with d.origin rows table initial current ≡ retired d p
unfolding retired
retired_is d p e f width count g h = rw (e, f, width, count, g, h) refl

pub resized_is : (d : Drafted) (p start : ℕ) (requirements table : List ℕ) → start ≡ p * resource_count d.origin →
    length requirements ≡ resource_count d.origin → table ≡ take start d.requirements ++ (requirements ++ drop
    (start + length requirements) d.requirements) →
    draft_with d.origin d.rows table d.initial d.current ≡ resized d p requirements
unfolding resized
resized_is d p start requirements table start_is width e =
    rw (e, put_here p d.requirements requirements width start_is) refl
