-- The process that comes is one more.
use Rattle.std.proofs.Common.{◌+◌, arith}
use Rattle.ra_edit.proofs.ScanLaws.{machine_told}
use Rattle.ra_edit.proofs.TestLaws.{conflict_some, conflict_none}
use Rattle.ra_edit.proofs.TouchLaws.{come_on}
use Rattle.ra_edit.proofs.judging.conflict_test.Goals as goal

pub returns-then-count-gt0 : goal.returns-then-count-gt0
returns-then-count-gt0 c = λ d e has come.
    conflict_some e c.args.s.0 c.args.m.0 (c.at-count.result + 1)
    (cc (machine_told d d.current c.args.s.0 c.args.m (c.at-count.ensures d has), come_on come)) (omega
    (arith, c.if-count-gt0.true))

pub returns-else-count-gt0 : goal.returns-else-count-gt0
returns-else-count-gt0 c = λ d e has come.
    conflict_none e c.args.s.0 c.args.m.0 (c.at-count.result + 1)
    (cc (machine_told d d.current c.args.s.0 c.args.m (c.at-count.ensures d has), come_on come)) (omega
    (arith, c.if-count-gt0.false))
