-- How far a seat is in its turn.
use Rattle.std.specs.Prelude.{ℕ}
use Rattle.ra_turn.specs.declared.sight.Stage.{Stage}
use Rattle.ra_turn.specs.declared.sight.Stage.TheVariants.{Maker, Spent, Drawn, Called, InTurn, Counted}

-- the seat wasn't joined to another one
abbrev pub IsLive : Stage → Type 0
IsLive Spent = ⊥
IsLive _ = Unit {0}

-- the seat is a pass's
abbrev pub IsPass : Stage → Type 0
IsPass (Maker turns) = ⊥
IsPass Spent = ⊥
IsPass _ = Unit {0}

-- the pass has a ticket
abbrev pub HasTicket : Stage → Type 0
HasTicket Drawn = Unit {0}
HasTicket Called = Unit {0}
HasTicket InTurn = Unit {0}
HasTicket Counted = Unit {0}
HasTicket _ = ⊥

-- the pass's ticket is served
abbrev pub IsServed : Stage → Type 0
IsServed Called = Unit {0}
IsServed InTurn = Unit {0}
IsServed Counted = Unit {0}
IsServed _ = ⊥

-- the pass has the value of the slot
abbrev pub HasSlot : Stage → Type 0
HasSlot InTurn = Unit {0}
HasSlot Counted = Unit {0}
HasSlot _ = ⊥

-- how many notes a seat has counted in this turn
abbrev pub counted_by : Stage → ℕ
counted_by Counted = 1
counted_by _ = 0
