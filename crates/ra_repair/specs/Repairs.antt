-- What a repair is before its run, and after it.
use Rattle.std.specs.Prelude.{◌≡◌, ℕ, List, [], false, slice_index_or}
use Rattle.ra_base.specs.declared.ids.Machine.{Machine}
use Rattle.ra_model.specs.declared.raw.Tables.{Tables}
use Rattle.ra_moves.specs.declared.steps.MoveKind.TheVariants.{Shift}
use Rattle.ra_repair.specs.declared.repair.Repair.{Repair}
use Rattle.ra_repair.specs.declared.tries.Try.{Try}
use Rattle.ra_repair.specs.Runs.{repair_run}

-- try number k of a list; past the end one without a move, which nothing reads
unfoldable pub try_in : List Try → ℕ → Try
try_in tries k =
    slice_index_or tries k
    (record {
      k = 0;
      mv = record { kind = Shift; steps = [] };
      taken = false;
      before = 0;
      after = 0;
    })

-- what a repair works on: its tables, the initial assignment, the assignment so far, and the tries so far
abbrev pub tables_repaired : Repair → Tables
tables_repaired r = r.inst.now.tables

abbrev pub start_repaired : Repair → List Machine
start_repaired r = r.start.now.items

abbrev pub assignment_repaired : Repair → List Machine
assignment_repaired r = r.kept.assignment.items

abbrev pub tries_made : Repair → List Try
tries_made r = r.tries.items

-- no try was made yet, and the assignment is the initial one
pub record IsFresh (repair : Repair) : Type 0 where
  pub none : repair.tries.items ≡ []
  pub begins : repair.kept.assignment.items ≡ repair.start.now.items

-- the tries and the assignment are those of the run of its lot
pub record IsRepaired (repair : Repair) : Type 0 where
  pub run :
      (record { assignment = repair.kept.assignment.items; tries = repair.tries.items }) ≡
      repair_run repair.inst.now.tables repair.start.now.items repair.lot.now
