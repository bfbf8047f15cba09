use Rattle.std.proofs.Common.{arith}
use Rattle.ra_trial.proofs.LineLemmas.{pushed_later, pushed_first}
use Rattle.ra_trial.proofs.lines.push_number.Goals as goal
use Rattle.ra_trial.proofs.lines.push_number.Goals.{then-k-gt0, else-k-gt0}

pub returns : goal.returns
returns c = elim c.if-k-gt0.branch [
  | then-k-gt0 w ↦ pushed_later _ _ (omega (arith, w.if-k-gt0.true))
      (rw w.text-is w.push.ensures.items) (rw w.text-is w.push.ensures.room) c.push_digits.ensures
  | else-k-gt0 w ↦ pushed_first _ _ (omega (arith, w.if-k-gt0.false)) w.text-is
      c.push_digits.ensures
]
