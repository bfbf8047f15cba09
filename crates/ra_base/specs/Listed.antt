-- What a contract sees of a `Fixed`: its items, and the room that was reserved.
--
-- Clauses of other crates see a `Fixed<T>` `f` as this record: `f.now.items` is the list, `f.now.room`
-- the room, and `length f.now.items ≤ f.now.room` is what `len`, `room` and `get` say. A definition
-- imports `Rattle.ra_base.specs.Listed.{Listed}` and takes a `Listed Machine`, say.
-- A `Name` is the list of its bytes, and a `Steps` is the number of its ticks.
-- The plain types are imported by the file that declares them, as
--   Rattle.ra_base.specs.declared.ids.Machine.{Machine}, and so Process, Service, Resource (`m.0` is the number)
--   Rattle.ra_base.specs.declared.ids.Guard.{Guard} and Rattle.ra_base.specs.declared.ids.Guard.TheVariants as guard
--   Rattle.ra_base.specs.declared.costs.Parts.{Parts}, and so MovedCount
--   Rattle.ra_base.specs.declared.causes.Cause.{Cause} and
--   Rattle.ra_base.specs.declared.causes.Cause.TheVariants.{Repeat, Same, Capacity}, and so on
--   Rattle.ra_base.specs.declared.lists.NoMemory.{NoMemory}
use Rattle.std.specs.Prelude.{ℕ, List}

pub record Listed (T : Type 0) : Type 0 where
  pub items : List T
  pub room : ℕ
