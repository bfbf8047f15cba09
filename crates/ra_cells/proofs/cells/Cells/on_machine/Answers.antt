-- What is held is what each assignment has that the cells represent.
use Rattle.ra_cells.proofs.CellLemmas.{told_machine}
use Rattle.ra_cells.proofs.cells.Cells.on_machine.Goals as goal

pub returns-clause-count : goal.returns-clause-count
returns-clause-count c i a0 a stand = told_machine c.args.s.0 stand c.requires c.args.m.0 c.held_of.ensures.count
