use Rattle.std.proofs.Common.{◌≡◌, ◌+◌, ◌*◌, ◌≤◌, ◌++◌, length}
use Rattle.std.specs.Prelude.{drop}
use Rattle.ra_assign.specs.Lists.{assignment_bytes, text_from}
use Rattle.ra_assign.proofs.text.assignment_text.Given as goal

abbrev pub invariant-loop-p : goal.invariant-loop-p
invariant-loop-p l = record {
  written : l.text.items ++ text_from l.p (drop l.p l.machines) ≡ assignment_bytes l.machines;
  short : length l.text.items ≤ l.p * 11;
  room : l.text.room ≡ length l.machines * 11 + 1;
}
