-- The digits end where the line began.
use Rattle.std.proofs.Common.{arith}
use Rattle.ra_report.proofs.LineLemmas.{room_before, twenty_digits, number_before}
use Rattle.ra_report.proofs.line.Line.prepend_number.Goals as goal

pub write_digits-self-inside-requires : goal.write_digits-self-inside-requires
write_digits-self-inside-requires c =
    let room = room_before c.self.inside.bytes c.args.self.now c.self.inside.from 20 (omega arith) c.self.invariant
    c.self.view_is c.requires in
    let few = twenty_digits c.args.number c.ranges.number.fits in
    (omega arith, omega arith)

pub returns : goal.returns
returns c = number_before c.self.inside.bytes c.self.inside.from c.args.number c.ranges.number.fits c.self.view_is
    c.write_digits-self-inside.ensures.written
