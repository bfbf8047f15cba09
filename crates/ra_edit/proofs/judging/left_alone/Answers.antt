-- None of the service is left, and of another one as many as before.
use Rattle.std.proofs.lemmas.Grind.{common_steps}
use Rattle.std.proofs.Common.{arith}
use Rattle.ra_edit.proofs.ScanLaws.{near_told}
use Rattle.ra_edit.proofs.TestLaws.{left_some, left_none}
use Rattle.ra_edit.proofs.judging.left_alone.Goals as goal

pub returns-then-u-s : goal.returns-then-u-s
returns-then-u-s c = λ d e has left. left_none e c.args.s.0 c.args.label c.args.u.0 0
    (cc (c.if-u-s.true, left.none)) (omega arith)

pub returns-then-at-gt0 : goal.returns-then-at-gt0
returns-then-at-gt0 c = λ d e has left. grind (arith, common_steps, left_some, near_told)

pub returns-else-at-gt0 : goal.returns-else-at-gt0
returns-else-at-gt0 c = λ d e has left. grind (arith, common_steps, left_none, near_told)
