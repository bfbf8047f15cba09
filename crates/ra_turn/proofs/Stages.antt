-- What follows from how far a seat is in its turn.
use Rattle.std.proofs.Common.{◌≤◌, arith}
use Rattle.ra_turn.specs.declared.sight.Stage.{Stage}
use Rattle.ra_turn.specs.declared.sight.Stage.TheVariants.{Maker, Spent, Idle, Drawn, Called, InTurn, Counted}
use Rattle.ra_turn.specs.Stages.{IsLive, IsPass, HasTicket, IsServed, HasSlot, counted_by}

pub slot_served : (s : Stage) → HasSlot s → IsServed s
slot_served InTurn h = tt
slot_served Counted h = tt
slot_served (Maker t) h = absurd h
slot_served Spent h = absurd h
slot_served Idle h = absurd h
slot_served Drawn h = absurd h
slot_served Called h = absurd h

pub served_ticket : (s : Stage) → IsServed s → HasTicket s
served_ticket Called h = tt
served_ticket InTurn h = tt
served_ticket Counted h = tt
served_ticket (Maker t) h = absurd h
served_ticket Spent h = absurd h
served_ticket Idle h = absurd h
served_ticket Drawn h = absurd h

pub slot_ticket : (s : Stage) → HasSlot s → HasTicket s
slot_ticket s h = served_ticket s (slot_served s h)

pub ticket_pass : (s : Stage) → HasTicket s → IsPass s
ticket_pass Drawn h = tt
ticket_pass Called h = tt
ticket_pass InTurn h = tt
ticket_pass Counted h = tt
ticket_pass (Maker t) h = absurd h
ticket_pass Spent h = absurd h
ticket_pass Idle h = absurd h

pub pass_live : (s : Stage) → IsPass s → IsLive s
pass_live Idle h = tt
pass_live Drawn h = tt
pass_live Called h = tt
pass_live InTurn h = tt
pass_live Counted h = tt
pass_live (Maker t) h = absurd h
pass_live Spent h = absurd h

pub counted_most : (s : Stage) → counted_by s ≤ 1
counted_most Counted = omega arith
counted_most (Maker t) = omega arith
counted_most Spent = omega arith
counted_most Idle = omega arith
counted_most Drawn = omega arith
counted_most Called = omega arith
counted_most InTurn = omega arith
