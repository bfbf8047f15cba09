use Rattle.std.proofs.Common.{◌≡◌, length}
use Rattle.ra_trial.specs.Lines.{listed}
use Rattle.ra_trial.specs.Trials.{start_machine}
use Rattle.ra_trial.proofs.trials.start.Given as goal

abbrev pub invariant-loop-p : goal.invariant-loop-p
invariant-loop-p l = record {
  items : l.machines.items ≡ listed l.p start_machine;
  many : length l.machines.items ≡ l.p;
  room : l.machines.room ≡ 1000;
}
