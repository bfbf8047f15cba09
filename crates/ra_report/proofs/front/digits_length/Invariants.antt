use Rattle.std.proofs.Common.{◌≡◌, drop}
use Rattle.ra_report.specs.Numbers.{past}
use Rattle.ra_report.proofs.front.digits_length.Given as goal

abbrev pub invariant-loop-i : goal.invariant-loop-i
invariant-loop-i l = past l.bytes ≡ past (drop l.i l.bytes)
