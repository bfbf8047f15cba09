-- What the cells count.
use Rattle.std.proofs.Common.{arith}
use Rattle.std.proofs.lemmas.Bool.{eqb-true, eqb-false}
use Rattle.ra_shift.proofs.shift.Shift.is_missing.Goals as goal

pub returns-clause-none : goal.returns-clause-none
returns-clause-none c test =
    omega (
      arith,
      eqb-true c.in_neighbourhood.result 0 test,
      c.in_neighbourhood.ensures.count _ _ _ c.cells.ensures.stand,
    )

pub returns-clause-some : goal.returns-clause-some
returns-clause-some c test other =
    omega (
      arith,
      eqb-false c.in_neighbourhood.result 0 test,
      c.in_neighbourhood.ensures.count _ _ _ c.cells.ensures.stand,
    )
