use Rattle.ra_report.proofs.journal.add_line.Goals as goal

pub returns : goal.returns
returns g c = rw (c.as_slice.ensures, c.write_line.ensures) at c.add.ensures
