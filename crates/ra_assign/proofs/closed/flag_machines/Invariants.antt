use Rattle.std.proofs.Common.{◌≡◌, length}
use Rattle.ra_model.specs.Numbers.{machine_count}
use Rattle.ra_token.specs.Moments.{here, Went}
use Rattle.ra_assign.specs.Reading.{HasFlaggedFirst}
use Rattle.ra_assign.proofs.closed.flag_machines.Given as goal

abbrev pub invariant-loop-taken : goal.invariant-loop-taken
invariant-loop-taken g l = record {
  went : Went (λ bytes before after. HasFlaggedFirst bytes l.inst.tables after l.taken l.flags.items)
      (here (g.F.Files.held l.initial.files) (g.F.Files.faults l.initial.files) l.initial.tokens)
      (here (g.F.Files.held l.files) (g.F.Files.faults l.files) l.tokens);
  size : length l.flags.items ≡ machine_count l.inst.tables;
}
