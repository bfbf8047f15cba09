-- Tables changed column by column, and what the whole change is.
use Rattle.std.proofs.Common.{inl, inr, ◌≡◌, ℕ, ◌+◌, ◌^◌, ◌<◌, ◌≤◌, List, length, replicate}
use Rattle.std.proofs.Common.{refl, sym}
use Rattle.std.proofs.Common.{ap, ◌∙◌, arith}
use Rattle.std.proofs.lemmas.Bool.{cases_lt}
use Rattle.ra_base.specs.Tables.{cell}
use Rattle.ra_base.proofs.Tables.{cell_zeros}
use Rattle.ra_base.specs.declared.ids.Machine.{Machine}
use Rattle.ra_model.specs.declared.raw.Tables.{Tables}
use Rattle.ra_model.specs.Limits.{WellFormed, Small}
use Rattle.ra_model.specs.Numbers.{resource_count, process_count, requirement_of}
use Rattle.ra_model.specs.Assignments.{machine_at}
use Rattle.ra_model.specs.Usage.{use_share, transient_share}
use Rattle.ra_model.proofs.TallyLemmas.{tally_none, tally_more}
use Rattle.ra_model.proofs.BoundLemmas.{use_part_under}
use Rattle.ra_rows.specs.Rows.{IsBelow}
use Rattle.ra_rows.specs.Changes.{at_row, away_row, HasMore, Moves, Shifts, Adds, IsTally}
use Rattle.ra_rows.proofs.CellLemmas.{at_row_here, at_row_elsewhere, away_row_home, away_row_other}

-- what a process requires of resource r, at the row of its machine; and the same away from its home
unfoldable pub share_at : Tables → ℕ → ℕ → ℕ → ℕ → ℕ
share_at i p at m r = at_row at (requirement_of i p r) m

unfoldable pub share_away : Tables → ℕ → ℕ → ℕ → ℕ → ℕ → ℕ
share_away i p home at m r = away_row home at (requirement_of i p r) m

unfoldable pub no_share : ℕ → ℕ → ℕ
no_share m r = 0

-- the first n columns have changed by what left and what came, and no other column has changed
pub record Part (width n : ℕ) (left come : ℕ → ℕ → ℕ) (old new : List ℕ) : Type 0 where
  pub done : (m r : ℕ) → r < width → r < n → cell width new m r + left m r ≡ cell width old m r + come m r
  pub rest : (m r : ℕ) → r < width → n ≤ r → cell width new m r ≡ cell width old m r
  pub same_length : length new ≡ length old

pub part_none : (width : ℕ) (left come : ℕ → ℕ → ℕ) (table : List ℕ) → Part width 0 left come table table
part_none width left come table = record {
  done = λ m r w h. absurd (omega arith);
  rest = λ m r w h. refl;
  same_length = refl;
}

part_more : (width n : ℕ) (left come : ℕ → ℕ → ℕ) (gone here : ℕ → ℕ) (old mid new : List ℕ) → n < width →
    ((m : ℕ) → left m n ≡ gone m) → ((m : ℕ) → come m n ≡ here m) → Part width n left come old mid →
    Moves width n gone here mid new → Part width (n + 1) left come old new
part_more width n left come gone here old mid new column left_is come_is part step = record {
  done = λ m r w h. elim (cases_lt r n) [
    | inl before ↦ omega (arith, step.others m r w (omega arith), part.done m r w before)
    | inr late ↦ let e : r ≡ n = omega arith in
        rw e (omega (arith, step.here m, part.rest m n column (omega arith), left_is m, come_is m))
  ];
  rest = λ m r w h. step.others m r w (omega arith) ∙ part.rest m r w (omega arith);
  same_length = step.same_length ∙ part.same_length;
}

-- in the columns that are still to come, there is room and enough

pub part_fits : (width n at amount : ℕ) (left come : ℕ → ℕ → ℕ) (old mid : List ℕ) → n < width → amount < 2 ^ 32 →
    IsBelow width (2 ^ 48) old → Part width n left come old mid → cell width mid at n + amount < 2 ^ 64
part_fits width n at amount left come old mid column small below part =
    omega (arith, below.each at n column, part.rest at n column (omega arith))

module _ (i : Tables) where
  module _ (a0 : List Machine) (p home : ℕ) where
    -- a process is counted at its home, and also at its machine if that is another
    transient_share_is : (at m r : ℕ) → machine_at a0 p ≡ home →
        transient_share i a0 m r p at ≡ share_at i p home m r + share_away i p home at m r
    unfolding transient_share share_at share_away
    transient_share_is at m r is = grind (arith, at_row_here, away_row_home, away_row_other, at_row_elsewhere)

    pub shifts_transient : (from to n : ℕ) (old new : List ℕ) → n ≡ resource_count i → machine_at a0 p ≡ home →
        Part (resource_count i) n (share_away i p home from) (share_away i p home to) old new →
        Shifts (resource_count i) (transient_share i a0) p from to old new
    shifts_transient from to n old new all is part = record {
      each = λ m r w. omega (
        arith,
        part.done m r w (omega arith),
        transient_share_is,
        transient_share_is,
      );
      same_length = part.same_length;
    }

  module _ (p : ℕ) where
    share_is : (at n amount m : ℕ) → amount ≡ requirement_of i p n → share_at i p at m n ≡ at_row at amount m
    unfolding share_at
    share_is at n amount m is = rw is refl

    away_is : (home at n amount m : ℕ) → amount ≡ requirement_of i p n →
        share_away i p home at m n ≡ away_row home at amount m
    unfolding share_away
    away_is home at n amount m is = rw is refl

    -- shares, as the definitions have them

    use_share_is : (at m r : ℕ) → use_share i m r p at ≡ share_at i p at m r
    unfolding use_share share_at at_row
    use_share_is at m r = refl

    -- all columns are done

    pub shifts_use : (from to n : ℕ) (old new : List ℕ) → n ≡ resource_count i →
        Part (resource_count i) n (share_at i p from) (share_at i p to) old new →
        Shifts (resource_count i) (use_share i) p from to old new
    shifts_use from to n old new all part = record {
      each = λ m r w. omega (arith, part.done m r w (omega arith), use_share_is, use_share_is);
      same_length = part.same_length;
    }

    pub adds_use : (at n : ℕ) (old new : List ℕ) → n ≡ resource_count i →
        Part (resource_count i) n no_share (share_at i p at) old new →
        Adds (resource_count i) (use_share i) p at old new
    unfolding no_share
    adds_use at n old new all part = record {
      each = λ m r w. omega (arith, part.done m r w (omega arith), use_share_is);
      same_length = part.same_length;
    }

  module _ (width p : ℕ) where
    pub part_moves : (from to n amount : ℕ) (old mid new : List ℕ) → width ≡ resource_count i → n < width →
        amount ≡ requirement_of i p n → Part (resource_count i) n (share_at i p from) (share_at i p to) old mid →
        Moves width n (at_row from amount) (at_row to amount) mid new →
        Part (resource_count i) (n + 1) (share_at i p from) (share_at i p to) old new
    part_moves from to n amount old mid new wide column is part step =
        part_more _ n _ _ (at_row from amount)
        (at_row to amount) old mid
        new (omega arith) (λ m. share_is p from n amount m is) (λ m. share_is p to n amount m is) part
        (rw (← wide) step)

    pub part_beside : (home from to n amount : ℕ) (old mid new : List ℕ) → width ≡ resource_count i → n < width →
        amount ≡ requirement_of i p n →
        Part (resource_count i) n (share_away i p home from) (share_away i p home to) old mid →
        Moves width n (away_row home from amount) (away_row home to amount) mid new →
        Part (resource_count i) (n + 1) (share_away i p home from) (share_away i p home to) old new
    part_beside home from to n amount old mid new wide column is part step =
        part_more _ n _ _ (away_row home from amount)
        (away_row home to amount) old mid new (omega arith) (λ m. away_is p home from n amount m is)
        (λ m. away_is p home to n amount m is) part (rw (← wide) step)

    pub part_adds : (at n amount : ℕ) (old mid new : List ℕ) → width ≡ resource_count i → n < width →
        amount ≡ requirement_of i p n → Part (resource_count i) n no_share (share_at i p at) old mid →
        HasMore width n (at_row at amount) mid new → Part (resource_count i) (n + 1) no_share (share_at i p at) old new
    unfolding no_share
    part_adds at n amount old mid new wide column is part more =
        part_more _ n no_share _ (λ m. 0) (at_row at amount) old mid new (omega arith)
        (λ m. refl) (λ m. share_is p at n amount m is) part
        (rw (← wide) (record {
          here = λ m. omega (arith, more.here m);
          others = more.others;
          same_length = more.same_length;
        }))

-- sums over the processes

pub tally_start : (width n : ℕ) (share : ℕ → ℕ → ℕ → ℕ → ℕ) (a : List Machine) (table : List ℕ) →
    table ≡ replicate n 0 → IsTally width 0 share a table
tally_start width n share a table zeros = rw zeros (record {
  each = λ m r w. cell_zeros width n m r ∙ sym (tally_none (share m r) a);
})

pub tally_next : (width p at : ℕ) (share : ℕ → ℕ → ℕ → ℕ → ℕ) (a : List Machine) (old new : List ℕ) →
    at ≡ machine_at a p → IsTally width p share a old → Adds width share p at old new →
    IsTally width (p + 1) share a new
tally_next width p at share a old new is before adds = record {
  each = λ m r w. omega (arith, tally_more, before.each m r w, adds.each m r w, ap (share m r p) is);
}

pub tally_below : (i : Tables) (a : List Machine) (n : ℕ) (table : List ℕ) → WellFormed i → Small i →
    n ≤ process_count i → IsTally (resource_count i) n (use_share i) a table → IsBelow (resource_count i) (2 ^ 48) table
tally_below i a n table formed small few sums = record {
  each = λ m r w. omega (arith, sums.each m r w, use_part_under);
}
