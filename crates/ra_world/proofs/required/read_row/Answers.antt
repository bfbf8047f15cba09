-- The row has what is read, and the other rows are as before.
use Rattle.std.proofs.Common.{arith}
use Rattle.ra_world.proofs.RequiredLaws.{row_read}
use Rattle.ra_world.proofs.required.read_row.Goals as goal

pub returns-clause-row : goal.returns-clause-row
returns-clause-row g c =
    row_read c.args.inst.now.tables c.args.p.0 c.args.j c.resources.result c.args.required.now c.read_requirements.new.row
    c.resources.ensures (omega (arith, c.resources.ensures, c.args.inst.now.well_formed.few_resources)) c.requires.row
    c.told-required (omega (arith, c.read_requirements.ensures.width, c.resources.ensures))
    (λ r within. c.read_requirements.ensures.each r (omega (arith, within, c.resources.ensures)))
