-- What most statements are about: the numbers of an instance, its initial assignment, and the assignment as it is now.
use Rattle.std.specs.Prelude.{◌≡◌, ℕ, List, Option, None}
use Rattle.ra_base.specs.declared.causes.Cause.{Cause}
use Rattle.ra_base.specs.declared.costs.Parts.{Parts}
use Rattle.ra_base.specs.declared.ids.Machine.{Machine}
use Rattle.ra_model.specs.declared.raw.Tables.{Tables}
use Rattle.ra_model.specs.Limits.{WellFormed, Small}
use Rattle.ra_model.specs.Assignments.{IsAssignment}
use Rattle.ra_model.specs.Services.{moved_of}
use Rattle.ra_model.specs.Broken.{first_broken}
use Rattle.ra_model.specs.Costs.{process_cost, service_cost, machine_cost, objective, parts_of}
use Rattle.ra_model.specs.Feasible.{Feasible}

pub record Situation : Type 0 where
  pub tables : Tables
  pub start : List Machine
  pub here : List Machine

abbrev pub situation : Tables → List Machine → List Machine → Situation
situation i a0 a = record { tables = i; start = a0; here = a }

-- the first constraint that is broken now
abbrev pub broken_at : Situation → Option Cause
broken_at st = first_broken st.tables st.start st.here

-- all constraints are met now
abbrev pub IsFeasible : Situation → Type 0
IsFeasible st = Feasible st.tables st.start st.here

-- the number of processes of a service that aren't on their initial machine
abbrev pub moved_at : Situation → ℕ → ℕ
moved_at st s = moved_of st.tables st.start st.here s

-- the parts of the objective that look at the start, the objective itself, and all parts with it
abbrev pub process_cost_at : Situation → ℕ
process_cost_at st = process_cost st.tables st.start st.here

abbrev pub service_cost_at : Situation → ℕ
service_cost_at st = service_cost st.tables st.start st.here

abbrev pub machine_cost_at : Situation → ℕ
machine_cost_at st = machine_cost st.tables st.start st.here

abbrev pub cost_at : Situation → ℕ
cost_at st = objective st.tables st.start st.here

abbrev pub parts_at : Situation → Parts
parts_at st = parts_of st.tables st.start st.here

-- the numbers are those of an instance, both lists are assignments of it, and nothing is broken now
pub record IsSound (st : Situation) : Type 0 where
  pub well_formed : WellFormed st.tables
  pub small : Small st.tables
  pub starts : IsAssignment st.tables st.start
  pub fits : IsAssignment st.tables st.here
  pub unbroken : broken_at st ≡ None
