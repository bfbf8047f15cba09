-- All processes of the service were seen.
use Rattle.std.proofs.Common.{◌∙◌, arith}
use Rattle.ra_repair.proofs.SumLemmas.{members_few, pair_listed}
use Rattle.ra_repair.proofs.sums.pair_far.Goals as goal

pub returns-clause-value : goal.returns-clause-value
returns-clause-value c =
    c.loop-j.invariant.value
    ∙ pair_listed c.args.inst.now.tables c.args.kept.now.assignment.items c.args.s.0 c.args.k c.args.members.now
    c.loop-j.j c.requires.members (omega (arith, c.loop-j-test.false, c.loop-j.auto.j-end))

pub returns-clause-few : goal.returns-clause-few
returns-clause-few c =
    omega (
      arith,
      c.loop-j.invariant.few,
      c.loop-j-test.false,
      c.loop-j.auto.j-end,
      members_few c.args.inst.now.well_formed c.requires.members,
    )
