use Rattle.std.proofs.Common.{take}
use Rattle.ra_token.specs.Lines.{HasNoEnd}
use Rattle.ra_token.proofs.line_scan.body_length.Given as goal

abbrev pub invariant-loop-i : goal.invariant-loop-i
invariant-loop-i l = HasNoEnd (take l.i l.bytes)
