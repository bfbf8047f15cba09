use Rattle.std.proofs.Common.{◌≡◌, ℕ, ◌<◌, length}
use Rattle.ra_model.specs.Assignments.{machine_at}
use Rattle.ra_model.specs.Numbers.{machine_count}
use Rattle.ra_token.specs.Moments.{here, Went}
use Rattle.ra_assign.specs.Reading.{HasTakenMachines}
use Rattle.ra_assign.proofs.assignments.read_machines.Given as goal

abbrev pub invariant-loop-p : goal.invariant-loop-p
invariant-loop-p g l = record {
  went : Went (λ bytes before after. HasTakenMachines bytes l.inst.tables after l.p l.list.items)
      (here (g.F.Files.held l.initial.files) (g.F.Files.faults l.initial.files) l.initial.tokens)
      (here (g.F.Files.held l.files) (g.F.Files.faults l.files) l.tokens);
  size : length l.list.items ≡ l.p;
  room : l.list.room ≡ l.initial.list.room;
  in_range : (k : ℕ) → k < l.p → machine_at l.list.items k < machine_count l.inst.tables;
}
