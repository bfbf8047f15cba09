-- The bits from a place on.
use Rattle.std.proofs.Common.{arith}
use Rattle.ra_descent.proofs.MarkLemmas.{rest_none, rest_before, rest_first}
use Rattle.ra_descent.proofs.marks.next_mark.Goals as goal

pub returns-then-rest-eq0-clause-none : goal.returns-then-rest-eq0-clause-none
returns-then-rest-eq0-clause-none c = λ k after before. rest_none c.args.marks c.args.from k c.if-rest-eq0.true after

pub returns-clause-none : goal.returns-clause-none
returns-clause-none c = λ k after before. rest_before c.args.marks c.args.from k c.ranges.marks.fits
    (omega (arith, c.if-rest-eq0.false)) after (omega (arith, before, c.min.ensures))

pub returns-clause-marked : goal.returns-clause-marked
returns-clause-marked c = λ below. rest_first c.args.marks c.args.from c.min.result c.ranges.marks.fits
    (omega (arith, c.if-rest-eq0.false)) (omega (arith, below, c.min.ensures))
