-- One process after another.
use Rattle.std.proofs.Common.{◌∙◌, sym, arith}
use Rattle.ra_base.proofs.Sums.{total_none, total_more}
use Rattle.ra_repair.proofs.SumLemmas.{members_listed, members_few, crowd_listed}
use Rattle.ra_repair.proofs.sums.service_crowd.Goals as goal

pub loop-k-init : goal.loop-k-init
loop-k-init c = record { value = sym (total_none _); few = omega arith }

pub overflow_add-sum : goal.overflow_add-sum
overflow_add-sum c =
    let few = members_few c.args.inst.now.well_formed
    (members_listed c.args.s.0 c.requires.topology c.requires.service c.members-members.ensures) in
    omega (arith, few, c.loop-k-test.true, c.loop-k.invariant.few, c.crowd_at-sum.ensures.few)

pub loop-k-preserved : goal.loop-k-preserved
loop-k-preserved c = record {
  value = omega (arith, c.loop-k.invariant.value, total_more, c.crowd_at-sum.ensures.value);
  few = omega (arith, c.loop-k.invariant.few, c.crowd_at-sum.ensures.few);
}

pub returns-clause-value : goal.returns-clause-value
returns-clause-value c =
    c.loop-k.invariant.value
    ∙ crowd_listed c.args.inst.now.tables c.args.kept.now.assignment.items c.args.s.0 c.loop-k.k c.requires.stands.fits
    (members_listed c.args.s.0 c.requires.topology c.requires.service c.members-members.ensures)
    (omega (arith, c.loop-k-test.false, c.loop-k.auto.k-end))

pub returns-clause-few : goal.returns-clause-few
returns-clause-few c =
    let few = members_few c.args.inst.now.well_formed
    (members_listed c.args.s.0 c.requires.topology c.requires.service c.members-members.ensures) in
    omega (arith, few, c.loop-k.invariant.few, c.loop-k-test.false, c.loop-k.auto.k-end)
