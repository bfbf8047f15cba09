-- The counters tell each mark's count.
use Rattle.std.proofs.Common.{arith}
use Rattle.ra_weigh.specs.Trials.{tables_of, initial_of, before_of}
use Rattle.ra_weigh.proofs.TestLemmas.{machine_marked, location_marked, neighbourhood_marked}
use Rattle.ra_weigh.proofs.trial.Trial.count_before.Goals as goal

pub returns-in-OnMachine-clause-count : goal.returns-in-OnMachine-clause-count
returns-in-OnMachine-clause-count c = machine_marked _ _
    c.args.s.0 c.args.x c.in-OnMachine.is
    (c.on_machine.ensures.count (tables_of c.args.self.now) (initial_of c.args.self.now) (before_of c.args.self.now)
    c.args.self.now.cells_stand)

pub returns-in-InLocation-clause-count : goal.returns-in-InLocation-clause-count
returns-in-InLocation-clause-count c = location_marked _
    _ c.args.s.0 c.args.x c.in-InLocation.is
    (c.in_location.ensures.count (tables_of c.args.self.now) (initial_of c.args.self.now) (before_of c.args.self.now)
    c.args.self.now.cells_stand)

pub returns-in-InNeighbourhood-clause-count : goal.returns-in-InNeighbourhood-clause-count
returns-in-InNeighbourhood-clause-count c = neighbourhood_marked _
    _ c.args.s.0 c.args.x c.in-InNeighbourhood.is
    (c.in_neighbourhood.ensures.count (tables_of c.args.self.now) (initial_of c.args.self.now)
    (before_of c.args.self.now) c.args.self.now.cells_stand)
