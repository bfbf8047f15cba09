-- What is held is what each assignment has that the cells represent.
use Rattle.ra_cells.proofs.CellLemmas.{told_location}
use Rattle.ra_cells.proofs.cells.Cells.in_location.Goals as goal

pub returns-clause-count : goal.returns-clause-count
returns-clause-count c i a0 a stand = told_location c.args.s.0 stand c.requires c.args.label c.held_of.ensures.count
