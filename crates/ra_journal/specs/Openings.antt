-- What a run begins with.
use Rattle.std.specs.Prelude.{List}
use Rattle.ra_base.specs.declared.ids.Machine.{Machine}
use Rattle.ra_draws.specs.declared.budgets.Lots.{Lots}
use Rattle.ra_model.specs.declared.raw.Tables.{Tables}

-- what a run begins with: the tables of an instance, the initial list, and the lots of its workers
pub record Opening : Type 0 where
  pub tables : Tables
  pub start : List Machine
  pub lots : Lots

abbrev pub opening : Tables → List Machine → Lots → Opening
opening i a0 l = record { tables = i; start = a0; lots = l }
