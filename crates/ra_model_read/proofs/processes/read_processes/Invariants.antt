use Rattle.std.proofs.Common.{[]}
use Rattle.ra_model_read.specs.Formats.{along}
use Rattle.ra_model_read.specs.ModelText.{process}
use Rattle.ra_model_read.specs.TableShapes.{process_lists, HasProcesses}
use Rattle.ra_token.specs.Moments.{here}
use Rattle.ra_model_read.specs.Reading.{Gives}
use Rattle.ra_model_read.proofs.processes.read_processes.Given as goal

abbrev pub invariant-loop-p : goal.invariant-loop-p
invariant-loop-p g l =
    Gives (along l.p (process l.service_count l.resource_count) (record { rows = []; requirements = [] }))
    (here (g.F.Files.held l.initial.files) (g.F.Files.faults l.initial.files) l.initial.tokens)
    (here (g.F.Files.held l.files) (g.F.Files.faults l.files) l.tokens) (process_lists l.tables)
    × HasProcesses l.service_count l.resource_count l.count l.p l.tables
