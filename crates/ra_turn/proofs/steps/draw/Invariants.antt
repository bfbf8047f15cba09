use Rattle.std.proofs.Common.{◌≡◌}
use Rattle.ra_turn.specs.Seats.{IsSameSeat}
use Rattle.ra_turn.proofs.steps.draw.Given as goal

abbrev pub invariant-loop : goal.invariant-loop
invariant-loop g l = IsSameSeat l.initial.seat l.seat × (l.seat.me ≡ l.initial.seat.me)
