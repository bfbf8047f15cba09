-- What a contract sees of `Rows`: the instance, the initial assignment, and two flat tables by machine, then resource:
-- the use of each, and the transient use.
use Rattle.std.specs.Prelude.{ℕ, List}
use Rattle.ra_base.specs.declared.ids.Machine.{Machine}
use Rattle.ra_model.specs.declared.raw.Tables.{Tables}

pub record RowTables : Type 0 where
  pub tables : Tables
  pub start : List Machine
  pub used : List ℕ
  pub between : List ℕ
