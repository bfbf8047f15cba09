-- Laws of the use that is kept.
use Rattle.std.proofs.lemmas.Grind.{common_steps}
use Rattle.std.proofs.Common.{◌≡◌, ◌≢◌, ◌⊎◌, ℕ, ◌+◌, ◌*◌, ◌^◌, ◌<◌, ◌≤◌, Bool, true, false, cond, eqb, ◌||◌}
use Rattle.std.proofs.Common.{List, [], ◌∷◌, ◌++◌, length, get_or, set, slice_index, replicate, refl, sym, ap}
use Rattle.std.proofs.Common.{◌∙◌, arith, eq-eqb, ne_eqb, length-set}
use Rattle.std.proofs.lemmas.Bool.{or_left, or_right}
use Rattle.std.proofs.lemmas.List.{length-replicate, get_or_append_left}
use Rattle.std.proofs.Math.Seq.{get_or-append_seam}
use Rattle.ra_base.specs.Tables.{cell}
use Rattle.ra_base.proofs.Tables.{cell_is, cell_write_same, cell_write_other}
use Rattle.ra_base.specs.declared.ids.Machine.{Machine}
use Rattle.ra_model.specs.declared.raw.Tables.{Tables}
use Rattle.ra_model.specs.Limits.{WellFormed, Small}
use Rattle.ra_model.proofs.BoundLemmas.{use_under, transient_under}
use Rattle.ra_model.specs.Numbers.{resource_count, machine_count, process_count, requirement_of}
use Rattle.ra_model.specs.Assignments.{machine_at, tally}
use Rattle.ra_model.specs.Usage.{use_share, use_of, transient_share, transient_of}
use Rattle.ra_check.specs.Made.{IsGrid}
use Rattle.ra_check.specs.Stands.{IsTally, AddsShare, IsBelow}
use Rattle.ra_check.proofs.TableLaws.{tally_start, tally_next, tally_below, use_share_small, transient_share_small}
use Rattle.ra_edit.specs.declared.loads.Loads.{Loads}
use Rattle.ra_edit.specs.Drafts.{Drafted, with_process_rows, instance_of}
use Rattle.ra_edit.specs.Loads.{HasMoreAt, HasMoreBetween, HasMoreUse, HasCounted, AreLoadsOf, IsUseRow, IsRowOf}
use Rattle.ra_edit.specs.Loads.{IsTransientRowOfDraft, IsThere}
use Rattle.ra_edit.specs.Kinds.{Asks}
use Rattle.ra_edit.specs.OneMore.{OneMore}
use Rattle.ra_edit.proofs.ShareLaws.{use_more, transient_more}

-- the first n columns differ by the amounts, and the others don't
pub record Part (width n at : ℕ) (amount : ℕ → ℕ) (low high : List ℕ) : Type 0 where
  pub done : (m r : ℕ) → r < width → r < n → cell width high m r ≡ cell width low m r + cond (eqb at m) (amount r) 0
  pub rest : (m r : ℕ) → r < width → n ≤ r → cell width high m r ≡ cell width low m r
  pub same_length : length high ≡ length low

pub part_none : (width at : ℕ) (amount : ℕ → ℕ) (table : List ℕ) → Part width 0 at amount table table
part_none width at amount table = grind (arith, common_steps)

pub part_all : (width n at : ℕ) (amount : ℕ → ℕ) (low high : List ℕ) → width ≤ n → Part width n at amount low high →
    HasMoreAt width at amount low high
part_all width n at amount low high all part = grind (arith, common_steps)

-- one cell is written, and differs by its amount then
part_next : {width n at : ℕ} {amount : ℕ → ℕ} {low high old new : List ℕ} → n < width →
    ((m r : ℕ) → r < width → (m ≢ at) ⊎ (r ≢ n) → cell width new m r ≡ cell width high m r) →
    ((m r : ℕ) → r < width → (m ≢ at) ⊎ (r ≢ n) → cell width old m r ≡ cell width low m r) →
    cell width new at n ≡ cell width old at n + amount n → length new ≡ length old →
    Part width n at amount low high → Part width (n + 1) at amount old new
part_next {n} {at} column high_same low_same here size part = grind (arith, common_steps, eq-eqb, ne_eqb)

-- one column more has grown
pub part_raised : (width n at value : ℕ) (amount : ℕ → ℕ) (old mid new : List ℕ) → n < width →
    at * width + n < length mid → value ≡ cell width mid at n + amount n → new ≡ set mid (at * width + n) value →
    Part width n at amount old mid → Part width (n + 1) at amount old new
part_raised width n at value amount old mid new column within is written part = rw written (part_next column
    (λ m r w apart. cell_write_other width mid at n value m r column w apart) (λ m r w apart. refl)
    (omega (arith, cell_write_same width mid at n value within, part.rest at n column (omega arith), is))
    (length-set mid (at * width + n) value ∙ part.same_length) part)

-- one column more has shrunk
pub part_lowered : (width n at value : ℕ) (amount : ℕ → ℕ) (old mid new : List ℕ) → n < width →
    at * width + n < length mid → value + amount n ≡ cell width mid at n → new ≡ set mid (at * width + n) value →
    Part width n at amount mid old → Part width (n + 1) at amount new old
part_lowered width n at value amount old mid new column within is written part = rw written (part_next column
    (λ m r w apart. refl) (λ m r w apart. cell_write_other width mid at n value m r column w apart)
    (omega (arith, cell_write_same width mid at n value within, part.rest at n column (omega arith), is))
    (part.same_length ∙ sym (length-set mid (at * width + n) value)) part)

-- a read within a row is a cell
pub row_read : {place x : ℕ} (width at r : ℕ) (table : List ℕ) → place ≡ at * width + r → x ≡ get_or table place 0 →
    x ≡ cell width table at r
row_read width at r table is read = read ∙ ap (λ k. get_or table k 0) is ∙ sym (cell_is width table at r)

-- one machine, or two

either_same : (a : Bool) (x : ℕ) → cond (a || a) x 0 ≡ cond a x 0
either_same true x = refl
either_same false x = refl

either_apart : (home at m x : ℕ) → home ≢ at → cond (eqb home m || eqb at m) x 0 ≡ cond (eqb home m) x 0
    + cond (eqb at m) x 0
either_apart home at m x apart = grind (arith, common_steps, eq-eqb, ne_eqb)

pub between_one : {width home at : ℕ} {amount : ℕ → ℕ} {low high : List ℕ} → home ≡ at →
    HasMoreAt width home amount low high → HasMoreBetween width home at amount low high
between_one {home} {amount} same more = grind (arith, common_steps, either_same)

pub between_two : {width home : ℕ} {amount : ℕ → ℕ} {low mid : List ℕ} (at : ℕ) (high : List ℕ) → home ≢ at →
    HasMoreAt width home amount low mid → HasMoreAt width at amount mid high →
    HasMoreBetween width home at amount low high
between_two {home} {amount} at high apart first second = grind (arith, common_steps, either_apart)

pub between_back : {width home : ℕ} {amount : ℕ → ℕ} {mid high : List ℕ} (at : ℕ) (low : List ℕ) → home ≢ at →
    HasMoreAt width at amount low mid → HasMoreAt width home amount mid high →
    HasMoreBetween width home at amount low high
between_back {home} {amount} at low apart first second = grind (arith, common_steps, either_apart)

-- a row more leaves a table below twice its bound
pub below_twice : {width : ℕ} {low high : List ℕ} (at : ℕ) (amount : ℕ → ℕ) → IsBelow width (2 ^ 62) low →
    ((r : ℕ) → amount r < 2 ^ 32) → HasMoreAt width at amount low high → IsBelow width (2 ^ 63) high
below_twice at amount below small more = grind (arith, common_steps)

-- the first process, and one more

pub counted_none : {d : Drafted} {cells : ℕ} {loads : Loads} → loads.used.items ≡ replicate cells 0 →
    loads.between.items ≡ replicate cells 0 → cells ≡ machine_count d.origin * resource_count d.origin →
    HasCounted d 0 loads
counted_none {d} {cells} {loads} used between grid = grind (arith, common_steps, tally_start, length-replicate)

shares_used : (i : Tables) (width p at : ℕ) (amount : ℕ → ℕ) (old new : List ℕ) →
    ((r : ℕ) → r < width → amount r ≡ requirement_of i p r) → HasMoreAt width at amount old new →
    AddsShare width (use_share i) p at old new
unfolding use_share
shares_used i width p at amount old new is more = record { each = λ m r w. cc (more.each m r w, is r w) }

shares_between : (i : Tables) (a0 : List Machine) (width p home at : ℕ) (amount : ℕ → ℕ) (old new : List ℕ) →
    home ≡ machine_at a0 p → ((r : ℕ) → r < width → amount r ≡ requirement_of i p r) →
    HasMoreBetween width home at amount old new → AddsShare width (transient_share i a0) p at old new
unfolding transient_share
shares_between i a0 width p home at amount old new home_is is more = record {
  each = λ m r w. cc (more.each m r w, is r w);
}

pub counted_more : {d : Drafted} {p home at : ℕ} {old new : Loads} (amount : ℕ → ℕ) → HasCounted d p old →
    home ≡ machine_at d.initial p → at ≡ machine_at d.current p →
    ((r : ℕ) → r < resource_count d.origin → amount r ≡ requirement_of (instance_of d) p r) →
    HasMoreUse (resource_count d.origin) home at amount old new → HasCounted d (p + 1) new
counted_more {d} {p} {home} {at} {old} {new} amount has home_is at_is is more = record {
  used = tally_next (resource_count d.origin) p at (use_share (instance_of d)) d.current old.used.items new.used.items
      at_is has.used (shares_used (instance_of d) (resource_count d.origin) p at amount old.used.items new.used.items is
      more.used);
  between = tally_next (resource_count d.origin) p at (transient_share (instance_of d) d.initial) d.current
      old.between.items new.between.items at_is has.between
      (shares_between (instance_of d) d.initial (resource_count d.origin) p home at amount old.between.items
      new.between.items home_is is more.between);
  used_grid = more.used.same_length ∙ has.used_grid;
  between_grid = more.between.same_length ∙ has.between_grid;
}

pub used_below : (d : Drafted) (n : ℕ) (loads : Loads) → n ≤ 50000 → Small (instance_of d) → HasCounted d n loads →
    IsBelow (resource_count d.origin) (2 ^ 62) loads.used.items
used_below d n loads few small has = tally_below (resource_count d.origin) n (use_share (instance_of d)) d.current
    loads.used.items (use_share_small (instance_of d) small) few has.used

pub between_below : (d : Drafted) (n : ℕ) (loads : Loads) → n ≤ 50000 → Small (instance_of d) → HasCounted d n loads →
    IsBelow (resource_count d.origin) (2 ^ 62) loads.between.items
between_below d n loads few small has =
    tally_below (resource_count d.origin) n (transient_share (instance_of d) d.initial) d.current loads.between.items
    (transient_share_small (instance_of d) d.initial small) few has.between

-- the row of a machine is within its table
pub row_there : {size : ℕ} (machines width at : ℕ) → size ≡ machines * width → at < machines → at * width + width ≤ size
row_there machines width at grid within = rw grid (grind arith)

-- the cells of kept loads are the use of the definitions

use_is : (d : Drafted) (m r : ℕ) → use_of (instance_of d) d.current m r ≡ tally (length d.rows)
    (use_share (instance_of d) m r) d.current
unfolding use_of process_count with_process_rows
use_is d m r = refl

transient_is : (d : Drafted) (m r : ℕ) → transient_of (instance_of d) d.initial d.current m r ≡ tally (length d.rows)
    (transient_share (instance_of d) d.initial m r) d.current
unfolding transient_of process_count with_process_rows
transient_is d m r = refl

pub use_kept : {d : Drafted} {loads : Loads} (m r : ℕ) → AreLoadsOf d loads → r < resource_count d.origin →
    cell (resource_count d.origin) loads.used.items m r ≡ use_of (instance_of d) d.current m r
use_kept {d} m r are column = are.used.each m r column ∙ sym (use_is d m r)

pub transient_kept : {d : Drafted} {loads : Loads} (m r : ℕ) → AreLoadsOf d loads → r < resource_count d.origin →
    cell (resource_count d.origin) loads.between.items m r ≡ transient_of (instance_of d) d.initial d.current m r
transient_kept {d} m r are column = are.between.each m r column ∙ sym (transient_is d m r)

-- one process more, or one less

loads_from : {e : Drafted} {i : Tables} {loads : Loads} → e.origin ≡ i →
    IsTally (resource_count i) (length e.rows) (use_share (instance_of e)) e.current loads.used.items →
    IsTally (resource_count i) (length e.rows) (transient_share (instance_of e) e.initial) e.current
    loads.between.items → IsGrid i loads.used.items → IsGrid i loads.between.items → AreLoadsOf e loads
loads_from same used between used_grid between_grid = grind (arith, common_steps)

pub loads_more : {d e : Drafted} {p home : ℕ} {low high : Loads} (at : ℕ) (amount : ℕ → ℕ) → AreLoadsOf d low →
    OneMore d e p → home ≡ machine_at e.initial p → at ≡ machine_at e.current p →
    ((r : ℕ) → r < resource_count d.origin → amount r ≡ requirement_of (instance_of e) p r) →
    HasMoreUse (resource_count d.origin) home at amount low high → AreLoadsOf e high
loads_more {e} at amount are one home_is at_is is more = loads_from one.origin
    (record {
      each = λ m r w.
          let share = rw (← at_is, ← is r w) at (use_more m r one w) in
          omega (arith, more.used.each m r w, use_kept m r are w, share, use_is e m r);
    })
    (record {
      each = λ m r w.
          let share = rw (← home_is, ← at_is, ← is r w) at (transient_more m r one w) in
          omega (arith, more.between.each m r w, transient_kept m r are w, share, transient_is e m r);
    })
    (more.used.same_length ∙ are.used_grid)
    (more.between.same_length ∙ are.between_grid)

pub loads_less : {d e : Drafted} {p home at : ℕ} {low high : Loads} (amount : ℕ → ℕ) → AreLoadsOf e high →
    OneMore d e p → home ≡ machine_at e.initial p → at ≡ machine_at e.current p →
    ((r : ℕ) → r < resource_count e.origin → amount r ≡ requirement_of (instance_of e) p r) →
    HasMoreUse (resource_count e.origin) home at amount low high → AreLoadsOf d low
loads_less {d} amount are one home_is at_is is more = loads_from (sym one.origin)
    (record {
      each = λ m r w.
          let share = rw (← at_is, ← is r w) at (use_more m r one (rw one.origin at w)) in
          omega (arith, more.used.each m r w, use_kept m r are w, share, use_is d m r);
    })
    (record {
      each = λ m r w.
          let share = rw (← home_is, ← at_is, ← is r w) at (transient_more m r one (rw one.origin at w)) in
          omega (arith, more.between.each m r w, transient_kept m r are w, share, transient_is d m r);
    })
    (sym more.used.same_length ∙ are.used_grid)
    (sym more.between.same_length ∙ are.between_grid)

-- what a process requires is counted where it is, and where it was

pub used_enough : {d e : Drafted} {p : ℕ} {loads : Loads} (r : ℕ) → AreLoadsOf e loads → OneMore d e p →
    r < resource_count e.origin → requirement_of (instance_of e) p r ≤ cell (resource_count e.origin) loads.used.items
    (machine_at e.current p) r
used_enough {e} {p} r are one w = omega (
  arith,
  use_kept (machine_at e.current p) r are w,
  rw (eq-eqb (machine_at e.current p) (machine_at e.current p) refl) at (use_more (machine_at e.current p) r one
      (rw one.origin at w)),
)

pub between_enough : {d e : Drafted} {p : ℕ} {loads : Loads} (m r : ℕ) → AreLoadsOf e loads → OneMore d e p →
    r < resource_count e.origin → (eqb (machine_at e.initial p) m || eqb (machine_at e.current p) m) ≡ true →
    requirement_of (instance_of e) p r ≤ cell (resource_count e.origin) loads.between.items m r
between_enough m r are one w there =
    omega (arith, transient_kept m r are w, rw there at (transient_more m r one (rw one.origin at w)))

-- the row of a machine

pub use_row_kept : {d : Drafted} {i : Tables} {loads : Loads} {row : List ℕ} (m : ℕ) → d.origin ≡ i →
    AreLoadsOf d loads → length row ≡ resource_count i →
    ((r : ℕ) → r < resource_count i → slice_index row r ≡ cell (resource_count i) loads.used.items m r) →
    IsUseRow d m row
use_row_kept m same are wide each = grind (arith, common_steps, use_kept)

pub transient_row_kept : {d : Drafted} {i : Tables} {loads : Loads} {row : List ℕ} (m : ℕ) → d.origin ≡ i →
    AreLoadsOf d loads → length row ≡ resource_count i →
    ((r : ℕ) → r < resource_count i → slice_index row r ≡ cell (resource_count i) loads.between.items m r) →
    IsTransientRowOfDraft d m row
transient_row_kept m same are wide each = grind (arith, common_steps, transient_kept)

pub row_small : {d : Drafted} {f : ℕ → ℕ} {row : List ℕ} → IsRowOf d f row → ((r : ℕ) → f r < 2 ^ 48) →
    (r : ℕ) → r < length row → slice_index row r < 2 ^ 63
row_small is small r w = omega (arith, is.each r (omega (arith, w, is.one_each)), small r)

-- process p of the second draft, which has it in addition, uses what it requires
pub record HasStep (d e : Drafted) (p : ℕ) (f g : ℕ → ℕ) : Type 0 where
  pub one : OneMore d e p
  pub each : (r : ℕ) → r < resource_count d.origin → g r ≡ f r + requirement_of (instance_of e) p r

pub use_step : {d e : Drafted} {p m : ℕ} → OneMore d e p → machine_at e.current p ≡ m →
    HasStep d e p (use_of (instance_of d) d.current m) (use_of (instance_of e) e.current m)
use_step {e} {p} {m} one here = record {
  one = one;
  each = λ r c. rw (eq-eqb (machine_at e.current p) m here) at (use_more m r one c);
}

pub transient_step : {d e : Drafted} {p : ℕ} (m : ℕ) → OneMore d e p → IsThere e p m →
    HasStep d e p (transient_of (instance_of d) d.initial d.current m) (transient_of
    (instance_of e) e.initial e.current m)
transient_step m one there = record { one = one; each = λ r c. rw there at (transient_more m r one c) }

pub there_first : {m : ℕ} (d : Drafted) (p : ℕ) → m ≡ machine_at d.initial p → IsThere d p m
there_first {m} d p home = or_left _ _ (eq-eqb (machine_at d.initial p) m (sym home))

pub there_now : {m : ℕ} (d : Drafted) (p : ℕ) → m ≡ machine_at d.current p → IsThere d p m
there_now {m} d p here = or_right _ _ (eq-eqb (machine_at d.current p) m (sym here))

-- a row with a process more, with a process less, and with other requirements of a process

pub row_more : {d e : Drafted} {p : ℕ} {f g : ℕ → ℕ} {row sums amounts : List ℕ} → HasStep d e p f g →
    IsRowOf d f row → Asks e p amounts → length sums ≡ length row →
    ((r : ℕ) → r < length row → slice_index sums r ≡ slice_index row r + slice_index amounts r) → IsRowOf e g sums
row_more step is asks wide sums_are = grind (arith, common_steps)

pub row_less : {d e : Drafted} {p : ℕ} {f g : ℕ → ℕ} {row rests amounts : List ℕ} → HasStep d e p f g →
    IsRowOf e g row → Asks e p amounts → length rests ≡ length row →
    ((r : ℕ) → r < length row → slice_index rests r + slice_index amounts r ≡ slice_index row r) → IsRowOf d f rests
row_less step is asks wide rests_are = grind (arith, common_steps)

pub row_other : {low d e : Drafted} {p : ℕ} {f g h : ℕ → ℕ} {row sums was asked : List ℕ} → HasStep low d p f g →
    HasStep low e p f h → IsRowOf d g row → Asks d p was → Asks e p asked → length sums ≡ length row →
    ((r : ℕ) → r < length row → slice_index sums r + slice_index was r ≡ slice_index row r + slice_index asked r) →
    IsRowOf e h sums
row_other before after is was_asks asks wide sums_are = grind (arith, common_steps)

-- the row of a machine of a process has what it requires
pub row_enough : {d e : Drafted} {p : ℕ} {f g : ℕ → ℕ} {row amounts : List ℕ} → HasStep d e p f g →
    IsRowOf e g row → Asks e p amounts → (r : ℕ) → r < length row → slice_index amounts r ≤ slice_index row r
row_enough step is asks r w =
    let c = rw is.one_each at w in
    omega (arith, is.each r c, asks.each r c, step.each r (rw step.one.origin at c))

-- without a process no more is used than the draft may use
pub used_below_less : {d e : Drafted} {p : ℕ} {loads : Loads} → AreLoadsOf d loads → OneMore d e p →
    WellFormed (instance_of e) → Small (instance_of e) → IsBelow (resource_count d.origin) (2 ^ 62) loads.used.items
used_below_less {e} are one well small = record {
  each = λ m r w.
      omega (arith, use_kept m r are w, use_more m r one w, use_under (instance_of e) e.current m r well small);
}

pub between_below_less : {d e : Drafted} {p : ℕ} {loads : Loads} → AreLoadsOf d loads → OneMore d e p →
    WellFormed (instance_of e) → Small (instance_of e) → IsBelow (resource_count d.origin) (2 ^ 62) loads.between.items
between_below_less {e} are one well small = record {
  each = λ m r w.
      omega (
        arith,
        transient_kept m r are w,
        transient_more m r one w,
        transient_under (instance_of e) e.initial e.current m r well small,
      );
}

-- one number more at the end of a row
pub each_pushed : (P : ℕ → ℕ → Type 0) (xs next : List ℕ) (x r : ℕ) → length xs ≡ r → next ≡ xs ++ x ∷ [] →
    ((k : ℕ) → k < r → P k (slice_index xs k)) → P r x → (k : ℕ) → k < r + 1 → P k (slice_index next k)
each_pushed P xs next x r size is each here k below =
    grind (arith, common_steps, get_or_append_left, get_or-append_seam)
