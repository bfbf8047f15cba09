-- Laws of tables of sums by machine and resource.
use Rattle.std.proofs.Common.{◌≡◌, ◌≢◌, ℕ, ◌+◌, ◌*◌, ◌^◌, ◌<◌, ◌≤◌, inl, inr, ⊎_elim, List, length, replicate}
use Rattle.std.proofs.Common.{set, refl, sym, ◌∙◌, arith, le_refl, eq-eqb, ne_eqb, eqb, ◌||◌, length-set}
use Rattle.std.proofs.lemmas.Bool.{cases_eq, cases_lt, cond-true, cond-false, or_left, or_right, or_from, cond_both}
use Rattle.ra_base.specs.Tables.{cell}
use Rattle.ra_base.proofs.Sums.{total_none, total_more, total_bound}
use Rattle.ra_base.proofs.Tables.{cell_write_same, cell_write_other, cell_zeros, place_within}
use Rattle.ra_base.specs.declared.ids.Machine.{Machine}
use Rattle.ra_model.specs.declared.raw.Tables.{Tables}
use Rattle.ra_model.specs.Limits.{Small}
use Rattle.ra_model.specs.Numbers.{resource_count, requirement_of}
use Rattle.ra_model.specs.Assignments.{machine_at, tally}
use Rattle.ra_model.specs.Usage.{use_share, transient_share}
use Rattle.ra_model.proofs.TallyLemmas.{use_share_here, use_share_elsewhere}
use Rattle.ra_check.specs.Stands.{IsTally, AddsShare, IsBelow}

-- shares

-- a process that stays has one share
pub transient_share_stays : (i : Tables) (a0 : List Machine) (m r p at : ℕ) → machine_at a0 p ≡ at →
    transient_share i a0 m r p at ≡ use_share i m r p (machine_at a0 p)
unfolding transient_share
transient_share_stays i a0 m r p at e = elim (cases_eq (machine_at a0 p) m) [
  | inl here ↦
      cond-true _ _ _ (or_left _ _ (eq-eqb (machine_at a0 p) m here))
      ∙ sym (use_share_here i m r p (machine_at a0 p) here)
  | inr apart ↦
      cond-false _ _ _ (or_from _ _ (ne_eqb (machine_at a0 p) m apart) (ne_eqb at m (λ d. apart (e ∙ d))))
      ∙ sym (use_share_elsewhere i m r p (machine_at a0 p) apart)
]

-- a process that has moved has a share on each of its two machines
pub transient_share_moves : (i : Tables) (a0 : List Machine) (m r p at : ℕ) → machine_at a0 p ≢ at →
    transient_share i a0 m r p at ≡ use_share i m r p (machine_at a0 p) + use_share i m r p at
unfolding transient_share
transient_share_moves i a0 m r p at moves = elim (cases_eq (machine_at a0 p) m) [
  | inl here ↦ omega (
    arith,
    cond-true (eqb (machine_at a0 p) m || eqb at m) (requirement_of i p r) 0
        (or_left (eqb (machine_at a0 p) m) (eqb at m) (eq-eqb (machine_at a0 p) m here)),
    use_share_here i m r p (machine_at a0 p) here,
    use_share_elsewhere i m r p at (λ d. moves (here ∙ sym d)),
  )
  | inr apart ↦ ⊎_elim
      (λ (there : at ≡ m).
      omega (
        arith,
        cond-true (eqb (machine_at a0 p) m || eqb at m) (requirement_of i p r) 0
            (or_right (eqb (machine_at a0 p) m) (eqb at m) (eq-eqb at m there)),
        use_share_elsewhere i m r p (machine_at a0 p) apart,
        use_share_here i m r p at there,
      ))
      (λ (gone : at ≢ m).
      omega (
        arith,
        cond-false (eqb (machine_at a0 p) m || eqb at m) (requirement_of i p r) 0
            (or_from (eqb (machine_at a0 p) m) (eqb at m) (ne_eqb (machine_at a0 p) m apart) (ne_eqb at m gone)),
        use_share_elsewhere i m r p (machine_at a0 p) apart,
        use_share_elsewhere i m r p at gone,
      ))
      (cases_eq at m)
]

-- no share is above 2^32
pub record IsSmallShare (share : ℕ → ℕ → ℕ → ℕ → ℕ) : Type 0 where
  pub each : (m r p at : ℕ) → share m r p at ≤ 2 ^ 32

pub use_share_small : (i : Tables) → Small i → IsSmallShare (use_share i)
use_share_small i small = record {
  each = λ m r p at. ⊎_elim
      (λ (here : at ≡ m). omega (arith, use_share_here i m r p at here, small.requirements p r))
      (λ (apart : at ≢ m). omega (arith, use_share_elsewhere i m r p at apart))
      (cases_eq at m);
}

pub transient_share_small : (i : Tables) (a0 : List Machine) → Small i → IsSmallShare (transient_share i a0)
unfolding transient_share
transient_share_small i a0 small = record {
  each = λ m r p at. cond_both _ (requirement_of i p r) 0 (λ x. x ≤ 2 ^ 32) (λ e. omega (arith, small.requirements p r))
      (λ e. omega arith);
}

-- a row is added cell by cell

-- the first n columns of row `at` have grown by the shares of process p, and no other cell has changed
pub record AddsPart (i : Tables) (p at n : ℕ) (old new : List ℕ) : Type 0 where
  pub done : (m r : ℕ) → r < resource_count i → r < n →
      cell (resource_count i) new m r ≡ cell (resource_count i) old m r + use_share i m r p at
  pub rest : (m r : ℕ) → r < resource_count i → n ≤ r →
      cell (resource_count i) new m r ≡ cell (resource_count i) old m r
  pub same_length : length new ≡ length old

pub adds_none : (i : Tables) (p at : ℕ) (old : List ℕ) → AddsPart i p at 0 old old
adds_none i p at old = record { done = λ m r w h. absurd (omega arith); rest = λ m r w h. refl; same_length = refl }

pub adds_more : (i : Tables) (p at n : ℕ) (old mid : List ℕ) → n < resource_count i →
    at * resource_count i + n < length mid → AddsPart i p at n old mid →
    AddsPart i p at (n + 1) old
    (set mid (at * resource_count i + n) (cell (resource_count i) mid at n + requirement_of i p n))
adds_more i p at n old mid column within part =
    let width = resource_count i in
    let value = cell width mid at n + requirement_of i p n in
    let new = set mid (at * width + n) value in
    let here : cell width new at n ≡ cell width old at n + use_share i at n p at =
    omega (
      arith,
      cell_write_same width mid at n value within,
      part.rest at n column (le_refl n),
      use_share_here i at n p at refl,
    ) in
    let last = λ (m r : ℕ) (row : m ≡ at) (e : r ≡ n). let goal : cell width new m r ≡ cell width old m r
    + use_share i m r p at = rw (row, e) here in goal in
    record {
      done = λ m r w h. ⊎_elim
          (λ (before : r < n). omega (
            arith,
            cell_write_other width mid at n value m r column w (inr (omega arith)),
            part.done m r w before,
          ))
          (λ (late : n ≤ r). let e : r ≡ n = omega arith in ⊎_elim
          (λ (row : m ≡ at). last m r row e)
          (λ (apart : m ≢ at). omega (
            arith,
            cell_write_other width mid at n value m r column w (inl apart),
            part.rest m r w late,
            use_share_elsewhere i m r p at (λ d. apart (sym d)),
          ))
          (cases_eq m at))
          (cases_lt r n);
      rest = λ m r w h. cell_write_other width mid at n value m r column w (inr (omega arith))
          ∙ part.rest m r w (omega arith);
      same_length = length-set mid (at * width + n) value ∙ part.same_length;
    }

-- sums over the processes

pub tally_none : (width n : ℕ) (share : ℕ → ℕ → ℕ → ℕ → ℕ) (a : List Machine) → IsTally width 0 share a (replicate n 0)
unfolding tally
tally_none width n share a = record {
  each = λ m r w. cell_zeros width n m r ∙ sym (total_none (λ q. share m r q (machine_at a q)));
}

pub tally_step : {width p : ℕ} {share : ℕ → ℕ → ℕ → ℕ → ℕ} {a : List Machine} {old new : List ℕ} →
    IsTally width p share a old → AddsShare width share p (machine_at a p) old new → IsTally width (p + 1) share a new
unfolding tally
tally_step {p} {share} {a} before adds = record {
  each = λ m r w. omega (arith, total_more p (λ q. share m r q (machine_at a q)), before.each m r w, adds.each m r w);
}

pub tally_below : (width n : ℕ) (share : ℕ → ℕ → ℕ → ℕ → ℕ) (a : List Machine) (table : List ℕ) → IsSmallShare share →
    n ≤ 50000 → IsTally width n share a table → IsBelow width (2 ^ 62) table
unfolding tally
tally_below width n share a table small few sums = record {
  each = λ m r w.
      omega (
        arith,
        sums.each m r w,
        total_bound n (2 ^ 32) (λ q. share m r q (machine_at a q))
            (λ q h. small.each m r q (machine_at a q)),
      );
}

-- the transient use of one process is added to one row or to two

pub transient_stays : (i : Tables) (a0 : List Machine) (p at : ℕ) (old new : List ℕ) → machine_at a0 p ≡ at →
    AddsShare (resource_count i) (use_share i) p (machine_at a0 p) old new →
    AddsShare (resource_count i) (transient_share i a0) p at old new
transient_stays i a0 p at old new stays adds = record {
  each = λ m r w. omega (arith, adds.each m r w, transient_share_stays i a0 m r p at stays);
}

pub transient_moves : (i : Tables) (a0 : List Machine) (p at : ℕ) (old mid new : List ℕ) → machine_at a0 p ≢ at →
    AddsShare (resource_count i) (use_share i) p (machine_at a0 p) old mid →
    AddsShare (resource_count i) (use_share i) p at mid new →
    AddsShare (resource_count i) (transient_share i a0) p at old new
transient_moves i a0 p at old mid new moves leaves enters = record {
  each = λ m r w. omega (arith, leaves.each m r w, enters.each m r w, transient_share_moves i a0 m r p at moves);
}

-- one row more leaves the table below twice its bound
pub below_after : {i : Tables} {old new : List ℕ} (p at : ℕ) → Small i → IsBelow (resource_count i) (2 ^ 62) old →
    AddsShare (resource_count i) (use_share i) p at old new → IsBelow (resource_count i) (2 ^ 63) new
below_after {i} p at small below adds = record {
  each = λ m r w. omega (arith, below.each m r w, adds.each m r w, (use_share_small i small).each m r p at);
}

pub below_grows : (width : ℕ) (table : List ℕ) → IsBelow width (2 ^ 62) table → IsBelow width (2 ^ 63) table
below_grows width table below = record { each = λ m r w. omega (arith, below.each m r w) }

-- what a loop has filled with zeros is the sum over no process
pub tally_start : (width n : ℕ) (share : ℕ → ℕ → ℕ → ℕ → ℕ) (a : List Machine) (table : List ℕ) →
    table ≡ replicate n 0 → IsTally width 0 share a table
tally_start width n share a table zeros = rw zeros (tally_none width n share a)

-- the machine of the process is what a call has given
pub tally_next : (width p at : ℕ) (share : ℕ → ℕ → ℕ → ℕ → ℕ) (a : List Machine) (old new : List ℕ) →
    at ≡ machine_at a p → IsTally width p share a old → AddsShare width share p at old new →
    IsTally width (p + 1) share a new
tally_next width p at share a old new is before adds = tally_step before (rw is at adds)

-- one more place within a grid
pub grid_place : (at n height width count : ℕ) → count ≡ height * width → at < height → n < width →
    at * width + n < count
grid_place at n height width count all row column = rw all (place_within at n height width row column)
