-- One process more has looked, and at the end all have.
use Rattle.std.proofs.Common.{arith}
use Rattle.ra_pins.proofs.SearchLemmas.{pass_start, pass_next_flags, pass_next_stays, pass_ends, pass_exact}
use Rattle.ra_pins.proofs.looks.pass.Goals as goal
use Rattle.ra_pins.proofs.looks.pass.Goals.{then-look, else-look}

pub loop-p-init : goal.loop-p-init
loop-p-init g c = pass_start c.requires.between

pub look-requires-clause-search : goal.look-requires-clause-search
look-requires-clause-search g c = c.loop-p.invariant.search

pub loop-p-preserved : goal.loop-p-preserved
loop-p-preserved g c = elim c.if-look.branch [
  | then-look w ↦ pass_next_flags c.loop-p.invariant c.look.ensures w.if-look.true w.some-is
  | else-look w ↦ pass_next_stays c.loop-p.invariant c.look.ensures w.if-look.false w.some-is
]

pub returns-clause-between : goal.returns-clause-between
returns-clause-between g c = pass_ends c.loop-p.invariant
    (omega (arith, c.processes-p-end.ensures, c.loop-p-test.false, c.loop-p.auto.p-end))

pub returns-clause-more : goal.returns-clause-more
returns-clause-more g c = c.loop-p.invariant.more

pub returns-clause-none : goal.returns-clause-none
returns-clause-none g c = pass_exact c.loop-p.invariant c.requires.fits c.requires.between
    (omega (arith, c.processes-p-end.ensures, c.loop-p-test.false, c.loop-p.auto.p-end))
