use Rattle.std.proofs.Common.{◌≡◌, [], length, map}
use Rattle.ra_model_read.specs.Formats.{along}
use Rattle.ra_model_read.specs.Lists.{of_resource}
use Rattle.ra_model_read.specs.ModelText.{resource}
use Rattle.ra_token.specs.Moments.{here}
use Rattle.ra_model_read.specs.Reading.{Gives}
use Rattle.ra_model_read.proofs.resources.read_resources.Given as goal

abbrev pub invariant-loop-r : goal.invariant-loop-r
invariant-loop-r g l =
    Gives (along l.r resource [])
    (here (g.F.Files.held l.initial.files) (g.F.Files.faults l.initial.files) l.initial.tokens)
    (here (g.F.Files.held l.files) (g.F.Files.faults l.files) l.tokens) (map of_resource l.rows.items)
    × (length l.rows.items ≡ l.r)
    × (l.rows.room ≡ l.count)
