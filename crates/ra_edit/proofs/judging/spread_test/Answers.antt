-- The locations are those of the definition.
use Rattle.std.proofs.lemmas.Grind.{common_steps}
use Rattle.std.proofs.Common.{arith}
use Rattle.ra_edit.proofs.TestLaws.{spread_few, spread_enough}
use Rattle.ra_edit.proofs.judging.spread_test.Goals as goal

pub returns-then-has-wants : goal.returns-then-has-wants
returns-then-has-wants c = λ e gone. grind (arith, common_steps, spread_few)

pub returns-else-has-wants : goal.returns-else-has-wants
returns-else-has-wants c = λ e gone. grind (arith, common_steps, spread_enough)
