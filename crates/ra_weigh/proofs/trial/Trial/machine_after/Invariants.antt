-- No step so far names the process.
use Rattle.std.proofs.Common.{◌≡◌, false}
use Rattle.ra_base.specs.Sums.{is_named}
use Rattle.ra_moves.specs.Steps.{process_in}
use Rattle.ra_weigh.specs.Trials.{steps_of}
use Rattle.ra_weigh.proofs.trial.Trial.machine_after.Given as goal

abbrev pub invariant-loop-j : goal.invariant-loop-j
invariant-loop-j l = is_named l.j (process_in (steps_of l.self)) l.p.0 ≡ false
