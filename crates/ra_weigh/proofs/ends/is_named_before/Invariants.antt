-- None of the first ends is of the machine.
use Rattle.std.proofs.Common.{◌≡◌, false}
use Rattle.ra_base.specs.Sums.{is_named}
use Rattle.ra_moves.specs.Values.{end_in}
use Rattle.ra_weigh.proofs.ends.is_named_before.Given as goal

abbrev pub invariant-loop-k : goal.invariant-loop-k
invariant-loop-k l = is_named l.k (end_in l.mv.steps) l.m.0 ≡ false
