-- What is held is what each assignment has that the cells represent.
use Rattle.ra_cells.proofs.CellLemmas.{told_neighbourhood}
use Rattle.ra_cells.proofs.cells.Cells.in_neighbourhood.Goals as goal

pub returns-clause-count : goal.returns-clause-count
returns-clause-count c i a0 a stand =
    told_neighbourhood c.args.s.0 stand c.requires c.args.label c.held_of.ensures.count
