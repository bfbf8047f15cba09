use Rattle.std.proofs.Common.{◌≡◌, ◌+◌, []}
use Rattle.ra_turn.specs.Passes.{IsReady, grips_of}
use Rattle.test_workers.proofs.turns.threads.write_all.Given as goal

abbrev pub invariant-loop-number : goal.invariant-loop-number
invariant-loop-number g l = record {
  ready : IsReady l.turn l.pass;
  number : l.pass.number ≡ l.initial.pass.number;
  left : l.pass.left + l.number ≡ l.initial.pass.left;
  held : grips_of l.pass ≡ [];
}
