use Rattle.std.proofs.lemmas.Bool.Decides.{Decides-eqb}
use Rattle.std.proofs.lemmas.Slice.Eq.{slice_eq-Decides}
use Rattle.ra_report.proofs.comparing.is_entry_line.Goals as goal

pub returns-clause-exact : goal.returns-clause-exact
returns-clause-exact c =
    rw (c.as_slice.ensures, c.write_line.ensures) at
    (slice_eq-Decides Decides-eqb c.args.line.now c.as_slice.result.now c.eq.result c.eq.ensures)
