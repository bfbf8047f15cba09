-- What a seat knows and has, with a name for each.
use Rattle.std.specs.Prelude.{ℕ, List}
use Rattle.atomic_table.specs.Table.{Me}

module _ {S V : Type 0} where
  -- the view of a seat
  abbrev pub view : Me S V → V
  view me = me.0

  -- the slots that the seat has taken, each with its value
  abbrev pub slots : Me S V → List (ℕ × S)
  slots me = me.1
