-- What rows stand for, when they are made and when a process is put on another machine.
use Rattle.std.proofs.Common.{◌≡◌, ℕ, ◌*◌, ◌^◌, ◌<◌, ◌≤◌, List, length, set, refl, sym, ap, ◌∙◌, arith}
use Rattle.std.proofs.Common.{eq-eqb, eqb}
use Rattle.std.proofs.lemmas.Bool.{cond-true, or_left, or_right, or_from}
use Rattle.ra_base.specs.Tables.{cell}
use Rattle.ra_base.specs.declared.ids.Machine.{Machine}
use Rattle.ra_model.specs.declared.raw.Tables.{Tables}
use Rattle.ra_model.specs.Limits.{WellFormed, Small}
use Rattle.ra_model.specs.Numbers.{resource_count, machine_count, process_count, requirement_of}
use Rattle.ra_model.specs.Assignments.{IsAssignment, machine_at}
use Rattle.ra_model.specs.Usage.{use_share, use_of, transient_share, transient_of}
use Rattle.ra_model.proofs.TallyLemmas.{tally_same, tally_term, use_set, transient_set, fits_set, machine_at_set_same}
use Rattle.ra_model.proofs.BoundLemmas.{use_under, transient_under}
use Rattle.ra_rows.specs.RowTables.{RowTables}
use Rattle.ra_rows.specs.Rows.{StandFor, HasAt, IsBelow, AreRows}
use Rattle.ra_rows.specs.Changes.{Shifts, IsTally, HasEnoughFor}

-- the rows of these tables
abbrev pub rows_of : Tables → List Machine → List ℕ → List ℕ → RowTables
rows_of i start used between = record { tables = i; start = start; used = used; between = between }

-- what represents an assignment is small

pub stands_below : (i : Tables) (start a : List Machine) (used between : List ℕ) → WellFormed i → Small i →
    StandFor (rows_of i start used between) a → (IsBelow (resource_count i) (2 ^ 48) used)
    × (IsBelow (resource_count i) (2 ^ 48) between)
stands_below i start a used between formed small stands = (
  record { each = λ m r w. omega (arith, stands.usage m r w, use_under) },
  record { each = λ m r w. omega (arith, stands.transient m r w, transient_under) },
)

module _ (i : Tables) where
  pub are_rows : (start a : List Machine) (used between : List ℕ) → WellFormed i → Small i → IsAssignment i start →
      length used ≡ machine_count i * resource_count i → length between ≡ machine_count i * resource_count i →
      StandFor (rows_of i start used between) a → AreRows (rows_of i start used between)
  are_rows start a used between formed small fits used_grid between_grid stands = record {
    start = fits;
    used_grid = used_grid;
    between_grid = between_grid;
    used_below = (stands_below i start a used between formed small stands).0;
    between_below = (stands_below i start a used between formed small stands).1;
  }

  -- the machine of a process has at least what the process requires

  use_share_own : (m r p : ℕ) → use_share i m r p m ≡ requirement_of i p r
  unfolding use_share
  use_share_own m r p = cond-true _ _ _ (eq-eqb m m refl)

  module _ (a0 : List Machine) (m r : ℕ) where
    -- at the start each process is at home, so transient use is use

    share_at_home : (p : ℕ) → transient_share i a0 m r p (machine_at a0 p) ≡
        use_share i m r p (machine_at a0 p)
    unfolding transient_share use_share
    share_at_home p = grind (arith, or_left, eq-eqb, or_from)

    transient_at_start : transient_of i a0 a0 m r ≡ use_of i a0 m r
    unfolding transient_of use_of
    transient_at_start =
        tally_same _ _ _ a0 a0 (λ p h. share_at_home p)

    transient_share_own : (p : ℕ) → transient_share i a0 m r p m ≡ requirement_of i p r
    unfolding transient_share
    transient_share_own p = cond-true _ _ _ (or_right (eqb (machine_at a0 p) m) _ (eq-eqb m m refl))

  pub stand_at_start : (a0 : List Machine) (used between : List ℕ) → IsAssignment i a0 →
      IsTally (resource_count i) (process_count i) (use_share i) a0 used → between ≡ used →
      StandFor (rows_of i a0 used between) a0
  unfolding use_of
  stand_at_start a0 used between fits sums copied = record {
    fits = fits;
    usage = sums.each;
    transient = λ m r w. ap (λ t. cell (resource_count i) t m r) copied ∙ sums.each m r w
        ∙ sym (transient_at_start a0 m r);
  }

  used_within : (a : List Machine) (p at r : ℕ) → p < process_count i → machine_at a p ≡ at →
      requirement_of i p r ≤ use_of i a at r
  unfolding use_of
  used_within a p at r there is =
      omega (
        arith,
        use_share_own at r p,
        tally_term (process_count i) p (use_share i at r) a there,
        ap (use_share i at r p) is,
      )

  transient_within : (a0 a : List Machine) (p at r : ℕ) → p < process_count i → machine_at a p ≡ at →
      requirement_of i p r ≤ transient_of i a0 a at r
  unfolding transient_of
  transient_within a0 a p at r there is =
      omega (
        arith,
        transient_share_own a0 at r p,
        tally_term (process_count i) p (transient_share i a0 at r) a there,
        ap (transient_share i a0 at r p) is,
      )

module _ (rows : RowTables) (p from : ℕ) (there : p < process_count rows.tables) (has : HasAt rows p from) where
  pub used_enough : HasEnoughFor rows.tables p from rows.used
  used_enough = record {
    each = λ r w. omega (
      arith,
      has.stands.usage from r w,
      used_within rows.tables has.assignment p from r there has.at,
    );
  }

  pub transient_enough : HasEnoughFor rows.tables p from rows.between
  transient_enough = record {
    each = λ r w.
        omega (
          arith,
          has.stands.transient from r w,
          transient_within rows.tables rows.start has.assignment p from r there
              has.at,
        );
  }

-- after a shift

pub stand_after : (i : Tables) (start a : List Machine) (p from : ℕ) (to : Machine)
    (used between used_then between_then : List ℕ) → p < process_count i → to.0 < machine_count i →
    Shifts (resource_count i) (use_share i) p from to.0 used used_then →
    Shifts (resource_count i) (transient_share i start) p from to.0 between between_then →
    StandFor (rows_of i start used between) a → machine_at a p ≡ from →
    StandFor (rows_of i start used_then between_then) (set a p to)
stand_after i start a p from to used between used_then between_then there within use_shifts transient_shifts stands is =
    record {
      fits = fits_set i a p to stands.fits there within;
      usage = λ m r w. omega (
        arith,
        use_shifts.each m r w,
        stands.usage m r w,
        use_set,
        ap (use_share i m r p) is,
      );
      transient = λ m r w.
          omega (
            arith,
            transient_shifts.each m r w,
            stands.transient m r w,
            transient_set,
            ap (transient_share i start m r p) is,
          );
    }

-- then the process is where it was put
pub has_after : (rows then : RowTables) (p from : ℕ) (to : Machine) → p < process_count rows.tables →
    HasAt rows p from → ((a : List Machine) → StandFor rows a → machine_at a p ≡ from → StandFor then (set a p to)) →
    HasAt then p to.0
has_after rows then p from to there has after = record {
  assignment = set has.assignment p to;
  stands = after has.assignment has.stands has.at;
  at = machine_at_set_same has.assignment p to (omega (arith, has.stands.fits.one_each));
}
