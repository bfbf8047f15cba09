use Rattle.std.proofs.Common.{◌≡◌, [], map}
use Rattle.ra_model_read.specs.Formats.{along}
use Rattle.ra_model_read.specs.Lists.{of_balance}
use Rattle.ra_model_read.specs.ModelText.{balance}
use Rattle.ra_model_read.specs.TableShapes.{HasBalances}
use Rattle.ra_token.specs.Moments.{here}
use Rattle.ra_model_read.specs.Reading.{Gives}
use Rattle.ra_model_read.proofs.balances.read_balances.Given as goal

abbrev pub invariant-loop-b : goal.invariant-loop-b
invariant-loop-b g l =
    Gives (along l.b (balance l.resource_count) [])
    (here (g.F.Files.held l.initial.files) (g.F.Files.faults l.initial.files) l.initial.tokens)
    (here (g.F.Files.held l.files) (g.F.Files.faults l.files) l.tokens) (map of_balance l.rows.items)
    × (l.rows.room ≡ l.count)
    × HasBalances l.resource_count l.b l.rows
