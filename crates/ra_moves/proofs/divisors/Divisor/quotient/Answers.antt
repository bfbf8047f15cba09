-- The inverse times the number is 2^64, or a little less.
use Rattle.std.proofs.Common.{◌*◌, arith}
use Rattle.std.proofs.Math.Nat.{div-mul-le_self, lt-div-mul-add}
use Rattle.ra_moves.proofs.Dividing.{quotient_low, quotient_high}
use Rattle.ra_moves.proofs.divisors.Divisor.quotient.Goals as goal

pub returns-clause-low : goal.returns-clause-low
returns-clause-low c = quotient_low 18446744073709551616 c.args.self.now.inverse c.args.self.now.number c.args.word _
    (omega arith) c.args.self.now.inverse_is.below (rw (c.from.ensures, c.from-2.ensures)
    (div-mul-le_self (c.args.word * c.args.self.now.inverse) 18446744073709551616))

pub returns-clause-high : goal.returns-clause-high
returns-clause-high c = quotient_high 18446744073709551616 c.args.self.now.inverse c.args.self.now.number c.args.word _
    c.args.self.now.inverse_is.some c.args.self.now.inverse_is.above c.ranges.word.fits
    (rw (c.from.ensures, c.from-2.ensures) (lt-div-mul-add (omega arith)))
