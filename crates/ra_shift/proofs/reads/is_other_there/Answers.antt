-- What the cells count.
use Rattle.std.proofs.Common.{arith}
use Rattle.std.proofs.lemmas.Bool.{ltb-true, ltb-false}
use Rattle.ra_shift.proofs.reads.is_other_there.Goals as goal

pub returns-clause-there : goal.returns-clause-there
returns-clause-there c test =
    omega (
      arith,
      ltb-true 0 c.in_neighbourhood.result test,
      c.in_neighbourhood.ensures.count _ _ _ c.cells.ensures.stand,
    )

pub returns-clause-none : goal.returns-clause-none
returns-clause-none c test other =
    omega (
      arith,
      ltb-false 0 c.in_neighbourhood.result test,
      c.in_neighbourhood.ensures.count _ _ _ c.cells.ensures.stand,
    )
