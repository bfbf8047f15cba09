use Rattle.std.proofs.Common.{arith, ap}
use Rattle.ra_assign.proofs.TextLemmas.{pushed_later, pushed_first}
use Rattle.ra_assign.proofs.text.push_machine.Goals as goal
use Rattle.ra_assign.proofs.text.push_machine.Goals.{then-p-gt0, else-p-gt0}

pub returns-clause-items : goal.returns-clause-items
returns-clause-items c = elim c.if-p-gt0.branch [
  | then-p-gt0 w ↦ pushed_later _ _ _ _ _ (omega (arith, w.if-p-gt0.true)) (rw w.text-is w.push.ensures.items)
      c.push_number.ensures.items
  | else-p-gt0 w ↦ pushed_first _ _ _ _ _ (omega (arith, w.if-p-gt0.false)) (ap (λ t. t.items) w.text-is)
      c.push_number.ensures.items
]
