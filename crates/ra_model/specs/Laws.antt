-- What holds of the definitions for every instance and every assignment, each proved by a function of `ra_laws`.
use Rattle.std.specs.Prelude.{ℕ, ◌^◌, ◌<◌, ◌≤◌, Bool, List, IfSome}
use Rattle.ra_base.specs.declared.ids.Machine.{Machine}
use Rattle.ra_model.specs.declared.raw.Tables.{Tables}
use Rattle.ra_model.specs.Numbers.{process_count}
use Rattle.ra_model.specs.Limits.{WellFormed, Small}
use Rattle.ra_model.specs.Usage.{use_of, transient_of}
use Rattle.ra_model.specs.Services.{members_at, locations_of}
use Rattle.ra_model.specs.Broken.{first_broken}
use Rattle.ra_model.specs.Causes.{IsConstraint}
use Rattle.ra_model.specs.Costs.{load_cost, balance_cost, process_cost, service_cost, machine_cost, objective}

-- what is named as broken is a constraint
abbrev pub BrokenNamesConstraints : Type 0
BrokenNamesConstraints =
    (i : Tables) (a0 a : List Machine) → IfSome (first_broken i a0 a) IsConstraint

-- how large the sums of an instance are at most
pub record SumsFit (i : Tables) (a0 a : List Machine) : Type 0 where
  pub used : (m r : ℕ) → use_of i a m r < 2 ^ 48
  pub transient : (m r : ℕ) → transient_of i a0 a m r < 2 ^ 48
  pub members : (s : ℕ) (test : ℕ → ℕ → Bool) → members_at i a s test ≤ process_count i
  pub locations : (s : ℕ) → locations_of i a s ≤ process_count i
  pub load : load_cost i a < 2 ^ 98
  pub balance : balance_cost i a < 2 ^ 113
  pub process : process_cost i a0 a < 2 ^ 80
  pub service : service_cost i a0 a < 2 ^ 48
  pub machine : machine_cost i a0 a < 2 ^ 80
  pub all : objective i a0 a < 2 ^ 114

abbrev pub AllSumsFit : Type 0
AllSumsFit = (i : Tables) (a0 a : List Machine) → WellFormed i → Small i → SumsFit i a0 a
