use Rattle.std.proofs.Common.{◌≡◌, drop}
use Rattle.ra_report.specs.Numbers.{told}
use Rattle.ra_report.proofs.front.number_at.Given as goal

abbrev pub invariant-loop-i : goal.invariant-loop-i
invariant-loop-i l = told 0 l.bytes ≡ told l.value (drop l.i l.bytes)
