use Rattle.ra_edit.proofs.ScanLaws.{small_with}
use Rattle.ra_edit.proofs.scanning.small.Goals as goal

pub returns : goal.returns
returns c = small_with c.args.lists.now.rows.items c.args.lists.now.requirements.items
    c.args.inst.now.small (rw c.as_slice.ensures at c.small_numbers.ensures)
