use Rattle.std.proofs.Common.{◌≡◌, ◌≤◌, take}
use Rattle.ra_token.specs.Lines.{line_end_count}
use Rattle.ra_token.proofs.line_scan.count_ends.Given as goal

abbrev pub invariant-loop-i : goal.invariant-loop-i
invariant-loop-i l = (l.count ≡ line_end_count (take l.i l.bytes)) × (l.count ≤ l.i)
