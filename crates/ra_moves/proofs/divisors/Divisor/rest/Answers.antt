-- One subtraction mends what is left.
use Rattle.std.proofs.Common.{◌*◌, ◌+◌, ◌%◌, ◌<◌, ◌≤◌, ap, ◌∙◌, arith}
use Rattle.ra_moves.proofs.Dividing.{rest_right, rest_mended}
use Rattle.ra_moves.proofs.divisors.Divisor.rest.Goals.{then-rest-number, else-rest-number}
use Rattle.ra_moves.proofs.divisors.Divisor.rest.Goals as goal

pub returns-clause-value : goal.returns-clause-value
returns-clause-value c =
    let number = c.from-number.ensures in
    let low : c.quotient.result * c.from-number.result ≤ c.args.word = rw number c.quotient.ensures.low in
    let high : c.args.word < c.quotient.result * c.from-number.result + 2 * c.from-number.result =
    rw number c.quotient.ensures.high in
    let by_number = ap (λ n. c.args.word % n) number in
    elim c.if-rest-number.branch [
      | then-rest-number w ↦ w.least-is ∙ rest_right c.from-number.result c.args.word c.quotient.result low
          (omega (arith, w.if-rest-number)) ∙ by_number
      | else-rest-number w ↦ w.least-is ∙ rest_mended c.from-number.result c.args.word c.quotient.result low
          (omega (arith, w.if-rest-number)) high ∙ by_number
    ]
