-- What holds of every penalty and of every run, each law proved by a function of `ra_laws`.
use Rattle.std.specs.Prelude.{◌≡◌, ◌↔◌, ◌≢◌, List, length}
use Rattle.ra_base.specs.declared.ids.Machine.{Machine}
use Rattle.ra_draws.specs.declared.sources.Lot.{Lot}
use Rattle.ra_model.specs.declared.raw.Tables.{Tables}
use Rattle.ra_model.specs.Limits.{WellFormed}
use Rattle.ra_model.specs.Assignments.{IsAssignment}
use Rattle.ra_model.specs.Feasible.{Feasible}
use Rattle.ra_repair.specs.Penalty.{penalty}
use Rattle.ra_repair.specs.Runs.{repair_run}

-- the penalty is 0 exactly if all constraints are met
abbrev pub ZeroIsFeasible : Type 0
ZeroIsFeasible =
    (i : Tables) (a0 a : List Machine) → WellFormed i → IsAssignment i a
    → (penalty i a0 a ≡ 0) ↔ Feasible i a0 a

-- a run whose last assignment has a penalty has used its whole budget
abbrev pub UsesItsBudget : Type 0
UsesItsBudget =
    (i : Tables) (a0 : List Machine) (lot : Lot) → penalty i a0 (repair_run i a0 lot).assignment ≢ 0
    → length (repair_run i a0 lot).tries ≡ lot.budget
