use Rattle.ra_report.proofs.repair.add_try.Goals as goal

pub returns : goal.returns
returns g c = rw (c.as_slice.ensures, c.write_try.ensures) at c.add.ensures
