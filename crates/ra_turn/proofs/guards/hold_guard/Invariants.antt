use Rattle.std.proofs.Common.{◌≡◌}
use Rattle.ra_turn.specs.Holds.{OnlyHolds}
use Rattle.ra_turn.specs.Seats.{IsSameSeat}
use Rattle.ra_turn.proofs.guards.hold_guard.Given as goal

abbrev pub invariant-loop : goal.invariant-loop
invariant-loop g l = record {
  seat : IsSameSeat l.initial.seat l.seat;
  only : OnlyHolds l.initial.seat.me l.seat.me;
  grips : l.seat.me.0.grips ≡ l.initial.seat.me.0.grips;
}
