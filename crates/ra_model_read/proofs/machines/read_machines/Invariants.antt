use Rattle.std.proofs.Common.{[]}
use Rattle.ra_model_read.specs.Formats.{along}
use Rattle.ra_model_read.specs.ModelText.{machine}
use Rattle.ra_model_read.specs.TableShapes.{machine_lists, HasMachines}
use Rattle.ra_token.specs.Moments.{here}
use Rattle.ra_model_read.specs.Reading.{Gives}
use Rattle.ra_model_read.proofs.machines.read_machines.Given as goal

abbrev pub invariant-loop-m : goal.invariant-loop-m
invariant-loop-m g l =
    Gives (along l.m (machine l.resource_count l.count) (record {
      rows = [];
      capacities = [];
      safeties = [];
      move_costs = [];
    })) (here (g.F.Files.held l.initial.files) (g.F.Files.faults l.initial.files) l.initial.tokens)
    (here (g.F.Files.held l.files) (g.F.Files.faults l.files) l.tokens) (machine_lists l.tables)
    × HasMachines l.resource_count l.count l.m l.tables
