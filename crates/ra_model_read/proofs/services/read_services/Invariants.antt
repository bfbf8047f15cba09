use Rattle.std.proofs.Common.{[]}
use Rattle.ra_model_read.specs.Formats.{along}
use Rattle.ra_model_read.specs.ModelText.{service}
use Rattle.ra_model_read.specs.TableShapes.{service_lists, HasServices}
use Rattle.ra_token.specs.Moments.{here}
use Rattle.ra_model_read.specs.Reading.{Gives}
use Rattle.ra_model_read.proofs.services.read_services.Given as goal

abbrev pub invariant-loop-s : goal.invariant-loop-s
invariant-loop-s g l =
    Gives (along l.s (service l.count) (record { rows = []; dependencies = [] }))
    (here (g.F.Files.held l.initial.files) (g.F.Files.faults l.initial.files) l.initial.tokens)
    (here (g.F.Files.held l.files) (g.F.Files.faults l.files) l.tokens) (service_lists l.tables)
    × HasServices l.count l.s l.tables
