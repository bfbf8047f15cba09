-- The signed numbers of the program are those of the clauses, since they stay far below 2^127.
use Rattle.std.proofs.Common.{arith}
use Rattle.ra_bounds.proofs.SignLemmas.{short_read, short_near, short_above, short_none}
use Rattle.ra_bounds.proofs.balance.shortage.Goals as goal

pub returns-then-short-gt0-clause-value : goal.returns-then-short-gt0-clause-value
returns-then-short-gt0-clause-value c =
    short_above _ _ (short_read c.args.target c.from.result c.args.first c.args.second c.from.ensures (omega arith)
    c.requires.first c.requires.second) c.if-short-gt0.true

pub returns-then-short-gt0-clause-fits : goal.returns-then-short-gt0-clause-fits
returns-then-short-gt0-clause-fits c =
    rw (short_read c.args.target c.from.result c.args.first c.args.second c.from.ensures (omega arith) c.requires.first
    c.requires.second)
    (short_near c.args.target c.args.first c.args.second (omega arith) c.requires.first c.requires.second)

pub returns-else-short-gt0-clause-value : goal.returns-else-short-gt0-clause-value
returns-else-short-gt0-clause-value c =
    short_none _ _ (short_read c.args.target c.from.result c.args.first c.args.second c.from.ensures (omega arith)
    c.requires.first c.requires.second) c.if-short-gt0.false
