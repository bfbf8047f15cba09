-- The sum so far.
use Rattle.std.proofs.Common.{◌≡◌}
use Rattle.std.proofs.Common.{false}
use Rattle.ra_base.specs.Sums.{is_named}
use Rattle.ra_repair.specs.Members.{seat_of}
use Rattle.ra_repair.proofs.sums.is_seated.Given as goal

abbrev pub invariant-loop-j : goal.invariant-loop-j
invariant-loop-j l = is_named l.j (seat_of l.kept.assignment.items l.members) l.at.0 ≡ false
