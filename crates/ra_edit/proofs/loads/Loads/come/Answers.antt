-- Both tables grow at the machine, and the second one also at the initial machine, if that is another.
use Rattle.std.proofs.lemmas.Grind.{common_steps}
use Rattle.std.proofs.Common.{arith}
use Rattle.std.proofs.lemmas.Bool.{eqb-true, eqb-false, not-true, not-false}
use Rattle.ra_check.proofs.TableLaws.{below_grows}
use Rattle.ra_edit.proofs.LoadLaws.{between_one, between_two, below_twice}
use Rattle.ra_edit.proofs.loads.Loads.come.Goals as goal

pub add_amounts-requires-clause-below : goal.add_amounts-requires-clause-below
add_amounts-requires-clause-below c = below_grows _ _ c.requires.used_below

pub add_amounts-requires-2-clause-below : goal.add_amounts-requires-2-clause-below
add_amounts-requires-2-clause-below c = below_grows _ _ c.requires.between_below

pub add_amounts-requires-then-ne : goal.add_amounts-requires-then-ne
add_amounts-requires-then-ne c = grind (arith, common_steps, below_twice)

pub returns-then-ne : goal.returns-then-ne
returns-then-ne c = grind (arith, common_steps, eqb-false, not-true, between_two)

pub returns-else-ne : goal.returns-else-ne
returns-else-ne c = grind (arith, common_steps, eqb-true, not-false, between_one)
