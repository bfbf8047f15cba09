use Rattle.std.proofs.Common.{◌≡◌, ◌+◌, length}
use Rattle.ra_model_read.specs.Formats.{along}
use Rattle.ra_model_read.specs.ModelText.{dependency}
use Rattle.ra_model_read.specs.TableShapes.{HasDependencies}
use Rattle.ra_token.specs.Moments.{here}
use Rattle.ra_model_read.specs.Reading.{Gives}
use Rattle.ra_model_read.proofs.services.read_dependencies.Given as goal

abbrev pub invariant-loop-k : goal.invariant-loop-k
invariant-loop-k g l =
    Gives (along l.k (dependency l.service_count (length l.initial.list.items)) l.initial.list.items)
    (here (g.F.Files.held l.initial.files) (g.F.Files.faults l.initial.files) l.initial.tokens)
    (here (g.F.Files.held l.files) (g.F.Files.faults l.files) l.tokens) l.list.items
    × (length l.list.items ≡ length l.initial.list.items + l.k)
    × HasDependencies l.service_count l.list
