-- An edit leaves an instance within the limits, and two lists that fit it.
use Rattle.std.proofs.lemmas.Grind.{common_steps}
use Rattle.std.proofs.Common.{◌≡◌, ◌≢◌, ℕ, ◌+◌, ◌-◌, ◌*◌, ◌<◌, ◌≤◌, List, [], ◌∷◌, ◌++◌, length, get_or, Some}
use Rattle.std.proofs.Common.{None, sym, ap, ◌∙◌, subst, arith, length-append, eq-eqb}
use Rattle.std.specs.List.{swap_remove}
use Rattle.std.proofs.Math.Seq.{get_or-append_seam}
use Rattle.std.proofs.lemmas.Bool.{lt-ltb, le-ltb}
use Rattle.std.proofs.lemmas.List.{get_or_append_left, get_or_default}
use Rattle.ra_base.specs.declared.costs.Parts.{Parts}
use Rattle.ra_base.specs.declared.ids.Machine.{Machine}
use Rattle.ra_base.specs.declared.ids.Service.{Service}
use Rattle.ra_model.specs.declared.raw.ProcessRow.{ProcessRow}
use Rattle.ra_model.specs.declared.raw.Tables.{Tables}
use Rattle.ra_model.specs.Limits.{WellFormed}
use Rattle.ra_model.specs.Numbers.{process_row, resource_count, machine_count, service_count, process_count, service_of}
use Rattle.ra_model.specs.Assignments.{IsAssignment, machine_at}
use Rattle.ra_model.proofs.InstanceLemmas.{well_formed_with}
use Rattle.ra_edit_read.specs.declared.edits.Edit.{Edit}
use Rattle.ra_edit_read.specs.declared.edits.Edit.TheVariants.{Add, Retire, Resize}
use Rattle.ra_edit_read.specs.EditLists.{FitsInstance}
use Rattle.ra_edit.specs.declared.replies.EditReply.TheVariants.{Full}
use Rattle.ra_edit.specs.Drafts.{Drafted, with_process_rows}
use Rattle.ra_edit.specs.Editing.{process_of, put_row, drop_row, added, retired, resized, edited}
use Rattle.ra_edit.specs.Replies.{barred}
use Rattle.ra_edit.specs.Keeping.{IsSoundDraft, IsKeptDraft}
use Rattle.ra_edit.proofs.ListLaws.{removed_length, removed_item, put_length, dropped_length}

-- the service of process p of some
pub row_service : List ProcessRow → ℕ → ℕ
row_service rows p = (get_or rows p (process_of (record { 0 = 0 }) 0)).service.0

-- the processes of an instance are few, have rows of requirements, and services that exist
pub record AreRows (i : Tables) (rows : List ProcessRow) (requirements : List ℕ) : Type 0 where
  pub some : 1 ≤ length rows
  pub few : length rows ≤ 50000
  pub table : length requirements ≡ length rows * resource_count i
  pub services : (p : ℕ) → p < length rows → row_service rows p < service_count i

service_here : (i : Tables) (rows : List ProcessRow) (requirements : List ℕ) (p : ℕ) → p < length rows →
    service_of (with_process_rows i rows requirements) p ≡ row_service rows p
unfolding with_process_rows service_of process_row row_service
service_here i rows requirements p within = ap (λ (x : ProcessRow). x.service.0) (get_or_default rows p _ _ within)

pub rows_of : (i : Tables) (rows : List ProcessRow) (requirements : List ℕ) →
    WellFormed (with_process_rows i rows requirements) → AreRows i rows requirements
unfolding with_process_rows process_count resource_count service_count
rows_of i rows requirements h = record {
  some = h.some_process;
  few = h.few_processes;
  table = h.requirements;
  services = λ p within. rw (service_here i rows requirements p within) at (h.services p within);
}

pub well_with : {i : Tables} {after : List ProcessRow} {next : List ℕ} (rows : List ProcessRow)
    (requirements : List ℕ) →
    WellFormed (with_process_rows i rows requirements) → AreRows i after next →
    WellFormed (with_process_rows i after next)
unfolding with_process_rows resource_count service_count process_count
well_with {i} {after} {next} rows requirements h fits =
    well_formed_with (with_process_rows i rows requirements) (with_process_rows i after next) h fits.some fits.few
    fits.table
    (λ p within. rw (← (service_here i after next p within)) at (fits.services p within))

-- assignments

fits_with : {a : List Machine} (i : Tables) (rows : List ProcessRow) (requirements : List ℕ) → length a ≡ length rows →
    ((p : ℕ) → p < length a → machine_at a p < machine_count i) → IsAssignment (with_process_rows i rows requirements) a
unfolding with_process_rows machine_count process_count
fits_with i rows requirements size each =
    record { one_each = size; in_range = λ p within. each p (omega (arith, size)) }

fits_size : {a : List Machine} (i : Tables) (rows : List ProcessRow) (requirements : List ℕ) →
    IsAssignment (with_process_rows i rows requirements) a → length a ≡ length rows
unfolding with_process_rows process_count
fits_size i rows requirements h = h.one_each

fits_each : {a : List Machine} (i : Tables) (rows : List ProcessRow) (requirements : List ℕ) →
    IsAssignment (with_process_rows i rows requirements) a → (p : ℕ) → p < length a → machine_at a p < machine_count i
unfolding with_process_rows machine_count
fits_each i rows requirements h p within = h.in_range p (rw h.one_each at within)

-- one more

each_more : {X : Type 0} → (P : X → Type 0) (xs : List X) (x d : X) → ((p : ℕ) → p < length xs → P (get_or xs p d)) →
    P x → (p : ℕ) → p < length (xs ++ x ∷ []) → P (get_or (xs ++ x ∷ []) p d)
each_more P xs x d each here p within =
    grind (arith, common_steps, get_or_append_left, length-append, get_or-append_seam)

-- one less
each_less : {X : Type 0} → (P : X → Type 0) (xs : List X) (q : ℕ) (d e : X) → q < length xs →
    ((p : ℕ) → p < length xs → P (get_or xs p e)) → (p : ℕ) → p < length (swap_remove xs q d) →
    P (get_or (swap_remove xs q d) p e)
each_less P xs q d e there each p within =
    let left : p < length xs - 1 = omega (arith, removed_length xs q d) in
    let found = removed_item xs q p d e there left in
    subst P (sym found.2) (each found.0 found.1)

pub added_sound : {d : Drafted} (s : Service) (m : Machine) (c : ℕ) (requirements : List ℕ) → IsSoundDraft d →
    length d.rows < 50000 → s.0 < service_count d.origin → m.0 < machine_count d.origin →
    length requirements ≡ resource_count d.origin → IsSoundDraft (added d s m c requirements)
unfolding added row_service process_of machine_at
added_sound {d} s m c requirements sound few s_in m_in width =
    let i = d.origin in
    let old = rows_of i d.rows d.requirements sound.well_formed in
    let row = process_of s c in
    let size = length-append d.rows (row ∷ []) in
    let rows : AreRows i (d.rows ++ row ∷ []) (d.requirements ++ requirements) = record {
      some = omega (arith, size);
      few = omega (arith, size);
      table = length-append d.requirements requirements ∙ more_rows (length d.requirements) (length requirements)
          (length d.rows) (resource_count i) (length (d.rows ++ row ∷ [])) old.table width size;
      services = each_more (λ (x : ProcessRow). x.service.0 < service_count i) d.rows row
          (process_of (record { 0 = 0 }) 0) old.services s_in;
    } in
    let fits = λ (a : List Machine) (h : IsAssignment (with_process_rows i d.rows d.requirements) a).
    fits_with i (d.rows ++ row ∷ []) (d.requirements ++ requirements)
    (omega (arith, length-append a (m ∷ []), size, fits_size i d.rows d.requirements h))
    (each_more (λ (x : Machine). x.0 < machine_count i) a m (record { 0 = 0 })
    (fits_each i d.rows d.requirements h) m_in) in
    record {
      well_formed = well_with d.rows d.requirements sound.well_formed rows;
      initial = fits d.initial sound.initial;
      current = fits d.current sound.current;
    }
  where
    more_rows : (a b n w after : ℕ) → a ≡ n * w → b ≡ w → after ≡ n + 1 → a + b ≡ after * w
    more_rows a b n w after old_size width size = rw (old_size, width, size) (grind arith)

pub retired_sound : {d : Drafted} (p : ℕ) → IsSoundDraft d → p < length d.rows → 1 < length d.rows →
    IsSoundDraft (retired d p)
unfolding retired row_service machine_at
retired_sound {d} p sound within more =
    let i = d.origin in
    let w = resource_count i in
    let old = rows_of i d.rows d.requirements sound.well_formed in
    let none = process_of (record { 0 = 0 }) 0 in
    let first : Machine = record { 0 = 0 } in
    let after = swap_remove d.rows p none in
    let next = drop_row w d.requirements (length d.rows) p in
    let size = removed_length d.rows p none in
    let rows : AreRows i after next = record {
      some = omega (arith, size);
      few = omega (arith, size, old.few);
      table = cc (dropped_length w (length d.rows) p d.requirements old.table within);
      services = each_less (λ (x : ProcessRow). x.service.0 < service_count i) d.rows p none none within old.services;
    } in
    let fits = λ (a : List Machine) (h : IsAssignment (with_process_rows i d.rows d.requirements) a).
    let all : length a ≡ length d.rows = fits_size i d.rows d.requirements h in
    fits_with i after next (omega (arith, removed_length a p first, size, all))
    (each_less (λ (x : Machine). x.0 < machine_count i) a p first first (omega (arith, all))
    (fits_each i d.rows d.requirements h)) in
    record {
      well_formed = well_with d.rows d.requirements sound.well_formed rows;
      initial = fits d.initial sound.initial;
      current = fits d.current sound.current;
    }

pub resized_sound : {d : Drafted} (p : ℕ) (requirements : List ℕ) → IsSoundDraft d → p < length d.rows →
    length requirements ≡ resource_count d.origin → IsSoundDraft (resized d p requirements)
unfolding resized
resized_sound {d} p requirements sound within width =
    let i = d.origin in
    let w = resource_count i in
    let old = rows_of i d.rows d.requirements sound.well_formed in
    let next = put_row w d.requirements p requirements in
    let rows : AreRows i d.rows next = record {
      some = old.some;
      few = old.few;
      table = put_length w (length d.rows) p d.requirements requirements old.table within width;
      services = old.services;
    } in
    record {
      well_formed = well_with d.rows d.requirements sound.well_formed rows;
      initial = fits_with i d.rows next (fits_size i d.rows d.requirements sound.initial)
          (fits_each i d.rows d.requirements sound.initial);
      current = fits_with i d.rows next (fits_size i d.rows d.requirements sound.current)
          (fits_each i d.rows d.requirements sound.current);
    }

-- what bars no edit

pub free_add : (count : ℕ) (s : Service) (m : Machine) (c : ℕ) → barred count (Add s m c) ≡ None → count ≢ 50000
unfolding barred
free_add count s m c free full = let e : Some Full ≡ None = rw (eq-eqb count 50000 full) at free in cc

pub free_retire : (count p : ℕ) → barred count (Retire p) ≡ None → (p < count) × (count ≢ 1)
unfolding barred
free_retire count p free = grind (arith, common_steps, lt-ltb, eq-eqb, le-ltb)

pub free_resize : (count p : ℕ) → barred count (Resize p) ≡ None → p < count
unfolding barred
free_resize count p free = grind (arith, common_steps, le-ltb)

pub edited_sound : {d : Drafted} (e : Edit) (requirements : List ℕ) → IsSoundDraft d → barred (length d.rows) e ≡ None →
    FitsInstance d.origin e → length requirements ≡ resource_count d.origin → IsSoundDraft (edited d e requirements)
unfolding edited
edited_sound {d} (Add s m c) requirements sound free fits width =
    added_sound s m c requirements sound (let few = (rows_of d.origin d.rows d.requirements sound.well_formed).few in
    let not_full = free_add (length d.rows) s m c free in omega arith) fits.0 fits.1 width
edited_sound {d} (Retire p) requirements sound free fits width = let h = free_retire (length d.rows) p free in
    let some = (rows_of d.origin d.rows d.requirements sound.well_formed).some in
    retired_sound p sound h.0 (let not_one = h.1 in omega arith)
edited_sound {d} (Resize p) requirements sound free fits width =
    resized_sound p requirements sound (free_resize (length d.rows) p free) width

-- how long the lists of a draft are
pub record AreFew (d : Drafted) : Type 0 where
  pub some : 1 ≤ length d.rows
  pub rows : length d.rows ≤ 50000
  pub narrow : resource_count d.origin ≤ 20
  pub table : length d.requirements ≡ length d.rows * resource_count d.origin
  pub requirements : length d.requirements ≤ 1000000
  pub initial : length d.initial ≡ length d.rows
  pub current : length d.current ≡ length d.rows

few_cells : (n w t : ℕ) → n ≤ 50000 → w ≤ 20 → t ≡ n * w → t ≤ 1000000
few_cells n w t few narrow same = grind (arith, common_steps)

pub few_of : {d : Drafted} → IsSoundDraft d → AreFew d
unfolding with_process_rows resource_count
few_of {d} sound = grind (arith, common_steps, rows_of, few_cells, fits_size)

pub few_rows : {d : Drafted} {parts : Parts} → IsKeptDraft d parts → length d.rows ≤ 50000
few_rows h = (few_of h.sound).rows

-- each list of machines has one of each process
pub initial_read : {d : Drafted} {p : ℕ} → IsSoundDraft d → p < length d.rows → p < length d.initial
initial_read sound within = omega (arith, (few_of sound).initial)

pub current_read : {d : Drafted} {p : ℕ} → IsSoundDraft d → p < length d.rows → p < length d.current
current_read sound within = omega (arith, (few_of sound).current)
