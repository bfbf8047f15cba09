-- A draft and the same draft with one process more.
use Rattle.std.proofs.lemmas.Grind.{common_steps}
use Rattle.std.proofs.Common.{inl, inr, ◌≡◌, ◌≢◌, ℕ, ◌+◌, ◌-◌, ◌*◌, ◌<◌, ◌≤◌, List, [], ◌∷◌, ◌++◌, length, take, drop}
use Rattle.std.proofs.Common.{set, get_or, refl, sym, ap, ◌∙◌, subst, ⊎_elim, arith, length-append, length-take-le}
use Rattle.std.proofs.Common.{get_or-set_same, get_or-set_other}
use Rattle.std.specs.List.{swap_remove}
use Rattle.std.proofs.Math.Seq.{get_or-append_right}
use Rattle.std.proofs.lemmas.Bool.{cases_lt, cases_eq}
use Rattle.std.proofs.lemmas.List.{get_or_append_left, get_or-append-add, get_or-take, get_or-drop, get_or_default}
use Rattle.ra_base.specs.Sums.{total}
use Rattle.ra_base.specs.Tables.{cell}
use Rattle.ra_base.specs.declared.ids.Machine.{Machine}
use Rattle.ra_base.proofs.Sums.{total_more, total_same, total_change}
use Rattle.ra_base.proofs.Tables.{place_within, cell_is}
use Rattle.ra_model.specs.declared.raw.ProcessRow.{ProcessRow}
use Rattle.ra_model.specs.declared.raw.Tables.{Tables}
use Rattle.ra_model.specs.Numbers.{resource_count, process_row, service_of, process_cost_of, requirement_of}
use Rattle.ra_model.specs.Assignments.{machine_at}
use Rattle.ra_edit_read.specs.EditLists.{row_of}
use Rattle.ra_edit.specs.Drafts.{Drafted, with_process_rows}
use Rattle.ra_edit.specs.Editing.{process_of, put_row, drop_row, retired}
use Rattle.ra_edit.specs.OneMore.{IsSame, OneMore}
use Rattle.ra_edit_read.proofs.ListLaws.{row_within, row_length, row_cell}
use Rattle.ra_edit.proofs.ListLaws.{removed_length}
use Rattle.ra_edit.proofs.SoundLaws.{AreFew}

-- reads of an instance with other processes

pub row_read : (i : Tables) (rows : List ProcessRow) (requirements : List ℕ) (p : ℕ) (d : ProcessRow) →
    p < length rows → process_row (with_process_rows i rows requirements) p ≡ get_or rows p d
unfolding with_process_rows process_row
row_read i rows requirements p d within = get_or_default rows p _ d within

pub requirement_read : (i : Tables) (rows : List ProcessRow) (requirements : List ℕ) (p r : ℕ) →
    requirement_of (with_process_rows i rows requirements) p r ≡ cell (resource_count i) requirements p r
unfolding with_process_rows requirement_of resource_count
requirement_read i rows requirements p r = refl

-- processes with the same rows are the same
pub same_from : {low high : Drafted} {k q : ℕ} (d : ProcessRow) → k < length low.rows → q < length high.rows →
    get_or low.rows k d ≡ get_or high.rows q d → high.origin ≡ low.origin →
    ((r : ℕ) → r < resource_count low.origin → cell (resource_count low.origin) low.requirements k r ≡
    cell (resource_count low.origin) high.requirements q r) → machine_at low.initial k ≡ machine_at high.initial q →
    machine_at low.current k ≡ machine_at high.current q → IsSame low k high q
unfolding service_of process_cost_of
same_from {low} {high} {k} {q} d k_in q_in same origin cells home here =
    grind (arith, common_steps, row_read, requirement_read)

-- lists with an item more, or less

pub less_other : {X : Type 0} → (xs : List X) (p k : ℕ) (d e : X) → k < length xs - 1 → k ≢ p →
    get_or (swap_remove xs p d) k e ≡ get_or xs k e
less_other xs p k d e left apart = get_or-take (length xs - 1) (set xs p (get_or xs (length xs - 1) d)) k e left
    ∙ get_or-set_other xs p k (get_or xs (length xs - 1) d) e apart

pub less_here : {X : Type 0} → (xs : List X) (p : ℕ) (d e : X) → p < length xs - 1 →
    get_or (swap_remove xs p d) p e ≡ get_or xs (length xs - 1) e
less_here xs p d e left = get_or-take (length xs - 1) (set xs p (get_or xs (length xs - 1) d)) p e left
    ∙ get_or-set_same xs p (get_or xs (length xs - 1) d) e (omega arith)
    ∙ get_or_default xs (length xs - 1) d e (omega arith)

-- a table with another row

front_within : (n w p : ℕ) (table : List ℕ) → length table ≡ n * w → p < n → p * w + w ≤ length table
front_within n w p table size within = omega (arith, size, row_within n w p within)

pub put_cell_here : (w n p r : ℕ) (table row : List ℕ) → length table ≡ n * w → p < n → length row ≡ w → r < w →
    cell w (put_row w table p row) p r ≡ get_or row r 0
unfolding put_row
put_cell_here w n p r table row size within width column =
    let rest = drop (p * w + w) table in
    cell_is w (take (p * w) table ++ (row ++ rest)) p r
    ∙ subst (λ m. get_or (take (p * w) table ++ (row ++ rest)) (m + r) 0 ≡ get_or (row ++ rest) r 0) (length-take-le
    (p * w) table (omega (arith, front_within n w p table size within)))
    (get_or-append-add (take (p * w) table) (row ++ rest) r 0)
    ∙ get_or_append_left row rest 0 r (omega (arith, width))

pub put_cell_behind : (w n p k r : ℕ) (table row : List ℕ) → length table ≡ n * w → p < n → length row ≡ w → p < k →
    cell w (put_row w table p row) k r ≡ cell w table k r
unfolding put_row
put_cell_behind w n p k r table row size within width behind =
    let front = length-take-le (p * w) table (omega (arith, front_within n w p table size within)) in
    let rest = drop (p * w + w) table in
    let start = row_within k w p behind in
    let place = k * w + r in
    cell_is w (take (p * w) table ++ (row ++ rest)) k r
    ∙ get_or-append_right (take (p * w) table) (row ++ rest) place 0 (omega (arith, front, start))
    ∙ get_or-append_right row rest (place - length (take (p * w) table)) 0 (omega (arith, front, start, width))
    ∙ get_or-drop (p * w + w) table (place - length (take (p * w) table) - length row) 0
    ∙ ap (λ m. get_or table m 0) (omega (arith, front, start, width))
    ∙ sym (cell_is w table k r)

pub put_cell_other : (w n p k r : ℕ) (table row : List ℕ) → length table ≡ n * w → p < n → length row ≡ w → k ≢ p →
    r < w → cell w (put_row w table p row) k r ≡ cell w table k r
unfolding put_row
put_cell_other w n p k r table row size within width apart column = ⊎_elim
    (λ (before : k < p). let place = place_within k r p w before column in
    cell_is w (take (p * w) table ++ (row ++ drop (p * w + w) table)) k r
    ∙ get_or_append_left (take (p * w) table) (row ++ drop (p * w + w) table) 0 (k * w + r)
    (omega (arith, length-take-le (p * w) table (omega (arith, front_within n w p table size within)), place))
    ∙ get_or-take (p * w) table (k * w + r) 0 place
    ∙ sym (cell_is w table k r))
    (λ (behind : p ≤ k). put_cell_behind w n p k r table row size within width (omega arith))
    (cases_lt k p)

-- a table with a row less
drop_cell : (w n p k r : ℕ) (table : List ℕ) → length table ≡ n * w → p < n → k < n - 1 → r < w →
    cell w (drop_row w table n p) k r ≡ cell w (put_row w table p (row_of w table (n - 1))) k r
unfolding drop_row
drop_cell w n p k r table size within left column = grind (arith, common_steps, cell_is, get_or-take, place_within)

-- one process at the end

-- a draft with one process more at its end
abbrev joined : Drafted → ProcessRow → List ℕ → Machine → Machine → Drafted
joined d row requirements home here = record {
  origin = d.origin;
  rows = d.rows ++ row ∷ [];
  requirements = d.requirements ++ requirements;
  initial = d.initial ++ home ∷ [];
  current = d.current ++ here ∷ [];
}

joined_same : {d : Drafted} {k : ℕ} (row : ProcessRow) (requirements : List ℕ) (home here : Machine) → AreFew d →
    k < length d.rows → IsSame d k (joined d row requirements home here) k
unfolding machine_at
joined_same {d} {k} row requirements home here few within =
    let w = resource_count d.origin in
    same_from row within (omega (arith, length-append d.rows (row ∷ [])))
    (sym (get_or_append_left d.rows (row ∷ []) row k within))
    refl
    (λ r column. sym (cell_is w (d.requirements ++ requirements) k r
    ∙ get_or_append_left d.requirements requirements 0 (k * w + r)
    (omega (arith, few.table, place_within k r (length d.rows) w within column))
    ∙ sym (cell_is w d.requirements k r)))
    (sym (ap (λ (x : Machine). x.0)
    (get_or_append_left d.initial (home ∷ []) (record { 0 = 0 }) k (omega (arith, few.initial)))))
    (sym (ap (λ (x : Machine). x.0)
    (get_or_append_left d.current (here ∷ []) (record { 0 = 0 }) k (omega (arith, few.current)))))

pub more_joined : {d : Drafted} (row : ProcessRow) (requirements : List ℕ) (home here : Machine) → AreFew d →
    OneMore d (joined d row requirements home here) (length d.rows)
more_joined {d} row requirements home here few =
    let n = length d.rows in
    let all : length (d.rows ++ row ∷ []) ≡ n + 1 = length-append d.rows (row ∷ []) in
    let same : (k : ℕ) → k < n → IsSame d k (joined d row requirements home here) k =
    λ k within. joined_same row requirements home here few within in
    record {
      origin = refl;
      size = all;
      there = omega (arith, all);
      kept = λ k within. (k, omega (arith, all), (λ (e : k ≡ n). omega (arith, e)), same k within);
      others = λ q within apart. (q, omega (arith, all), same q (omega (arith, all)));
      sums = λ f g each. ap (λ m. total m g) all ∙ total_more n g
          ∙ ap (λ t. t + g n)
          (sym (total_same n f g (λ k within. each k k within (omega (arith, all)) (same k within))));
    }

-- a process less, whose number the last one takes; what it required may be anything

abbrev with_table : Drafted → List ℕ → Drafted
with_table d table = record d { requirements = table }

-- a table in which the other processes require what they did
abbrev KeepsOthers : Drafted → List ℕ → ℕ → Type 0
KeepsOthers d table p = (q r : ℕ) → q < length d.rows → q ≢ p → r < resource_count d.origin →
    cell (resource_count d.origin) table q r ≡ cell (resource_count d.origin) d.requirements q r

retired_same : (d : Drafted) (table : List ℕ) (p k : ℕ) → AreFew d → KeepsOthers d table p → p < length d.rows →
    k < length d.rows - 1 → k ≢ p → IsSame (retired d p) k (with_table d table) k
unfolding machine_at retired
retired_same d table p k few cells within left apart =
    let w = resource_count d.origin in
    let n = length d.rows in
    let none = process_of (record { 0 = 0 }) 0 in
    let zero_machine : Machine = record { 0 = 0 } in
    same_from none (omega (arith, removed_length d.rows p none)) (omega arith)
    (less_other d.rows p k none none left apart) refl
    (λ r column. drop_cell w n p k r d.requirements few.table within left column
    ∙ put_cell_other w n p k r d.requirements (row_of w d.requirements (n - 1)) few.table within
    (row_length d.requirements n w (n - 1) few.table (omega arith)) apart column
    ∙ sym (cells k r (omega arith) apart column))
    (ap (λ (x : Machine). x.0)
    (less_other d.initial p k zero_machine zero_machine (omega (arith, few.initial)) apart))
    (ap (λ (x : Machine). x.0)
    (less_other d.current p k zero_machine zero_machine (omega (arith, few.current)) apart))

renamed_same : {d : Drafted} {p : ℕ} (table : List ℕ) → AreFew d → KeepsOthers d table p → p < length d.rows - 1 →
    IsSame (retired d p) p (with_table d table) (length d.rows - 1)
unfolding machine_at retired
renamed_same {d} {p} table few cells left =
    let w = resource_count d.origin in
    let n = length d.rows in
    let none = process_of (record { 0 = 0 }) 0 in
    let zero_machine : Machine = record { 0 = 0 } in
    same_from none (omega (arith, removed_length d.rows p none)) (omega arith) (less_here d.rows p none none left) refl
    (λ r column. drop_cell w n p p r d.requirements few.table (omega arith) left column
    ∙ put_cell_here w n p r d.requirements (row_of w d.requirements (n - 1)) few.table (omega arith)
    (row_length d.requirements n w (n - 1) few.table (omega arith)) column ∙ row_cell w (n - 1) r d.requirements column
    ∙ sym (cells (n - 1) r (omega arith) (λ (e : n - 1 ≡ p). omega (arith, e)) column))
    (ap (λ (x : Machine). x.0) (less_here d.initial p zero_machine zero_machine (omega (arith, few.initial)))
    ∙ ap (λ m. (get_or d.initial m zero_machine).0) (omega (arith, few.initial)))
    (ap (λ (x : Machine). x.0) (less_here d.current p zero_machine zero_machine (omega (arith, few.current)))
    ∙ ap (λ m. (get_or d.current m zero_machine).0) (omega (arith, few.current)))

retired_size : (d : Drafted) (p : ℕ) → length (retired d p).rows ≡ length d.rows - 1
unfolding retired
retired_size d p = removed_length d.rows p (process_of (record { 0 = 0 }) 0)

retired_origin : (d : Drafted) (p : ℕ) → (retired d p).origin ≡ d.origin
unfolding retired
retired_origin d p = refl

pub more_retired : {d : Drafted} {p : ℕ} (table : List ℕ) → AreFew d → KeepsOthers d table p → p < length d.rows →
    OneMore (retired d p) (with_table d table) p
more_retired {d} {p} table few cells within =
    let n = length d.rows in
    let h = with_table d table in
    let less = retired_size d p in
    let same : (k : ℕ) → k < n - 1 → k ≢ p → IsSame (retired d p) k h k =
    λ k left apart. retired_same d table p k few cells within left apart in
    let renamed : p < n - 1 → IsSame (retired d p) p h (n - 1) = λ left. renamed_same table few cells left in
    record {
      origin = sym (retired_origin d p);
      size = omega (arith, less);
      there = omega arith;
      kept = λ k left. ⊎_elim
          (λ (here : k ≡ p). (
            n - 1,
            omega arith,
            (λ (e : n - 1 ≡ p). omega (arith, e, here, less, left)),
            subst (λ m. IsSame (retired d p) m h (n - 1)) (sym here) (renamed (omega (arith, here, less))),
          ))
          (λ (apart : k ≢ p). (k, omega (arith, less), apart, same k (omega (arith, less)) apart))
          (cases_eq k p);
      others = λ q q_in apart. elim (cases_eq q (n - 1)) [
        | inl last ↦ (
          p,
          omega (arith, less, last, apart),
          subst (λ m. IsSame (retired d p) p h m) (sym last) (renamed (omega (arith, last, apart))),
        )
        | inr before ↦ (q, omega (arith, less, before), same q (omega (arith, before)) apart)
      ];
      sums = λ f g each.
          let last : total n g ≡ total (n - 1) g + g (n - 1) = ap (λ m. total m g) (omega arith)
          ∙ total_more (n - 1) g in
          let start : total (n - 1) f + g p ≡ total n g = (elim (cases_eq p (n - 1)) [
            | inl here ↦
                let front : total (n - 1) f ≡ total (n - 1) g = total_same (n - 1) f g
                (λ k left. each k k (omega (arith, less)) (omega arith)
                (same k left (λ (e : k ≡ p). omega (arith, e, here)))) in
                omega (arith, last, front, ap g here)
            | inr apart ↦ let left : p < n - 1 = omega arith in
                let swapped = total_change (n - 1) p f g left
                (λ k k_in other. each k k (omega (arith, less)) (omega arith) (same k k_in other)) in
                omega (arith, last, swapped, each p (n - 1) (omega (arith, less)) (omega arith) (renamed left))
          ]) in
          cc;
    }
