use Rattle.std.proofs.Common.{◌≡◌, ◌+◌, ◌++◌, length}
use Rattle.ra_trial.specs.Lines.{listed}
use Rattle.ra_trial.specs.Numbers.{trial_way_cost_of}
use Rattle.ra_trial.proofs.machines.add_way_costs.Given as goal

abbrev pub invariant-loop-b : goal.invariant-loop-b
invariant-loop-b l = record {
  items : l.line.items ≡ l.initial.line.items ++ listed l.b (trial_way_cost_of l.m);
  many : length l.line.items ≡ length l.initial.line.items + l.b;
  room : l.line.room ≡ l.initial.line.room;
}
