-- What is kept, of an assignment that is known.
use Rattle.std.proofs.Common.{◌≡◌, ℕ, ◌+◌, ◌-◌, ◌^◌, ◌<◌, ◌≤◌, List, set, ap, arith}
use Rattle.ra_base.specs.declared.ids.Machine.{Machine}
use Rattle.ra_model.specs.declared.raw.Tables.{Tables}
use Rattle.ra_model.specs.Limits.{WellFormed, Small}
use Rattle.ra_model.specs.Assignments.{IsAssignment}
use Rattle.ra_rows.specs.Rows as rows
use Rattle.ra_cells.specs.Stands as cells
use Rattle.ra_repair.specs.declared.kept.Kept.{Kept}
use Rattle.ra_repair.specs.Keeping.{StandsForKept, KeepsPenalty}
use Rattle.ra_repair.specs.Penalty.{penalty}
use Rattle.ra_repair.specs.Touched.{touched}
use Rattle.ra_repair.proofs.BoundLemmas.{penalty_few}
use Rattle.ra_repair.proofs.StepLemmas.{Goes, penalty_set}

pub stands_on : (kept : Kept) (i : Tables) (a0 a : List Machine) → kept.assignment.items ≡ a → IsAssignment i a →
    kept.rows.tables ≡ i → kept.rows.start ≡ a0 → rows.StandFor kept.rows a → cells.StandFor kept.cells i a0 a →
    StandsForKept kept i a0
stands_on kept i a0 a is fits tables start by_rows by_cells = record {
  fits = rw is fits;
  tables = tables;
  start = start;
  rows = rw is by_rows;
  cells = rw is by_cells;
}

-- the penalty is kept after the step
pub keeps_on : {kept : Kept} (now : ℕ) {i : Tables} {a0 : List Machine} → StandsForKept kept i a0 →
    now ≡ penalty i a0 kept.assignment.items → KeepsPenalty (record kept { penalty = now }) i a0
keeps_on now stands is = record {
  stands = record {
    fits = stands.fits;
    tables = stands.tables;
    start = stands.start;
    rows = stands.rows;
    cells = stands.cells;
  };
  penalty_is = is;
}

-- the penalty after a step: what was kept, with what is touched after the step instead of what was before
pub record Renews (i : Tables) (a0 b : List Machine) (now before after : ℕ) : Type 0 where
  pub fits : now + after < 2 ^ 128
  pub enough : before ≤ now + after
  pub renewed : now + after - before ≡ penalty i a0 b

pub renews : {kept : Kept} {i : Tables} {a0 b : List Machine} {p from : ℕ} (to : Machine) {before after : ℕ} →
    WellFormed i → Small i → KeepsPenalty kept i a0 → Goes i kept.assignment.items p from to →
    b ≡ set kept.assignment.items p to → before ≡ touched i a0 kept.assignment.items p from to.0 →
    after ≡ touched i a0 b p from to.0 → after ≤ 2 ^ 60 → Renews i a0 b kept.penalty before after
renews {kept} {i} {a0} {p} {from} to limits small keeps goes is before_is after_is few =
    let a = kept.assignment.items in
    let change = penalty_set i a0 a p from to limits small goes in
    let same = ap (penalty i a0) is in
    let later = ap (λ xs. touched i a0 xs p from to.0) is in
    let bound = penalty_few i a0 a limits small in
    record {
      fits = omega (arith, bound, keeps.penalty_is, few);
      enough = omega (arith, change, same, later, keeps.penalty_is, before_is, after_is);
      renewed = omega (arith, change, same, later, keeps.penalty_is, before_is, after_is);
    }
