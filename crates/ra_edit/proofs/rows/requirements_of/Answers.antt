-- The row of the process is read.
use Rattle.std.proofs.Common.{◌≡◌, ◌*◌, arith}
use Rattle.ra_model.specs.Numbers.{resource_count}
use Rattle.ra_edit.proofs.ReadLaws.{row_of_process, asks_read}
use Rattle.ra_edit.proofs.rows.requirements_of.Goals as goal

pub part-requires : goal.part-requires
part-requires c =
    let start : c.place.result ≡ c.args.p.0 * resource_count c.args.inst.now.tables =
    omega (arith, rw c.resources-width.ensures at c.place.ensures) in
    rw (c.as_slice.ensures, start, c.resources-width.ensures)
    (row_of_process c.args.p.0 c.requires.sound c.requires.process)

pub returns : goal.returns
returns c =
    let start : c.place.result ≡ c.args.p.0 * resource_count c.args.inst.now.tables =
    omega (arith, rw c.resources-width.ensures at c.place.ensures) in
    asks_read c.requires.sound
    c.requires.process (rw (c.as_slice.ensures, start, c.resources-width.ensures) at c.part.ensures)
