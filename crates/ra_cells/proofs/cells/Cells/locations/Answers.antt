-- The number that is kept is that of the different labels.
use Rattle.ra_cells.proofs.CellLemmas.{told_spread, spread_within}
use Rattle.ra_cells.proofs.cells.Cells.locations.Goals as goal

pub returns-clause-count : goal.returns-clause-count
returns-clause-count c i a0 a stand = told_spread c.args.s.0 stand c.requires c.get.ensures

pub returns-clause-within : goal.returns-clause-within
returns-clause-within c = spread_within c.args.self.now.inst.now.tables c.args.self.now.locations.items
    c.args.self.now.spreads.items c.args.s.0 c.get.result c.args.self.now.inst.now.well_formed
    c.args.self.now.spreads_there c.requires c.get.ensures
