use Rattle.std.proofs.Common.{◌≡◌, length}
use Rattle.ra_report.proofs.desks.Desks.make.Given as goal

abbrev pub invariant-loop : goal.invariant-loop
invariant-loop l = length l.desks.items ≡ l.counter
