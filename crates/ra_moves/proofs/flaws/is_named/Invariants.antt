-- Not named so far.
use Rattle.std.proofs.Common.{◌≡◌, false}
use Rattle.ra_base.specs.Sums.{is_named}
use Rattle.ra_moves.specs.Steps.{process_in}
use Rattle.ra_moves.proofs.flaws.is_named.Given as goal

abbrev pub invariant-loop-j : goal.invariant-loop-j
invariant-loop-j l = is_named l.j (process_in l.mv.steps) l.process.0 ≡ false
