-- Both tables shrink at the machine, and the second one also at the initial machine, if that is another.
use Rattle.std.proofs.lemmas.Grind.{common_steps}
use Rattle.std.proofs.Common.{arith, ne_eqb}
use Rattle.std.proofs.lemmas.Bool.{eqb-true, eqb-false, not-true, not-false}
use Rattle.ra_edit.proofs.LoadLaws.{between_one, between_back}
use Rattle.ra_edit.proofs.loads.Loads.go.Goals as goal

pub take_amounts-requires-then-ne : goal.take_amounts-requires-then-ne
take_amounts-requires-then-ne c = grind (arith, common_steps, eqb-false, not-true, ne_eqb)

pub returns-then-ne : goal.returns-then-ne
returns-then-ne c = grind (arith, common_steps, eqb-false, not-true, between_back)

pub returns-else-ne : goal.returns-else-ne
returns-else-ne c = grind (arith, common_steps, eqb-true, not-false, between_one)
