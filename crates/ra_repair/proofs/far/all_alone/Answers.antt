-- One dependant after another.
use Rattle.std.proofs.Common.{◌∙◌, sym, arith}
use Rattle.ra_base.proofs.Sums.{total_none, total_more}
use Rattle.ra_topology.specs.Lists.{service_at}
use Rattle.ra_repair.specs.Touched.{left_alone}
use Rattle.ra_repair.proofs.ReadLemmas.{listed, dependant_there, dependants_few, alone_listed}
use Rattle.ra_repair.proofs.far.all_alone.Goals as goal

pub loop-j-init : goal.loop-j-init
loop-j-init c = record { value = sym (total_none _); few = omega arith }

pub left_alone-sum-requires-clause-service : goal.left_alone-sum-requires-clause-service
unfolding service_at
left_alone-sum-requires-clause-service c =
    dependant_there c.loop-j.j
    (listed c.args.s.0 c.requires.topology c.requires.service c.dependants-dependants.ensures)
    (omega (arith, c.loop-j-test.true))

pub overflow_add-sum : goal.overflow_add-sum
overflow_add-sum c =
    let few = dependants_few c.args.inst.now.well_formed
    (listed c.args.s.0 c.requires.topology c.requires.service c.dependants-dependants.ensures) in
    omega (arith, few, c.loop-j-test.true, c.loop-j.invariant.few, c.left_alone-sum.ensures.few)

pub loop-j-preserved : goal.loop-j-preserved
unfolding service_at
loop-j-preserved c = record {
  value = omega (
    arith,
    c.loop-j.invariant.value,
    total_more c.loop-j.j
        (λ j. left_alone c.args.inst.now.tables c.args.kept.now.assignment.items c.args.s.0 c.args.label
        (service_at c.dependants-dependants.result.now j)),
    c.left_alone-sum.ensures.value,
  );
  few = omega (arith, c.loop-j.invariant.few, c.left_alone-sum.ensures.few);
}

pub returns-clause-value : goal.returns-clause-value
returns-clause-value c =
    c.loop-j.invariant.value
    ∙ alone_listed c.args.inst.now.tables c.args.kept.now.assignment.items c.args.s.0 c.args.label c.loop-j.j
    (listed c.args.s.0 c.requires.topology c.requires.service c.dependants-dependants.ensures)
    (omega (arith, c.loop-j-test.false, c.loop-j.auto.j-end))

pub returns-clause-few : goal.returns-clause-few
returns-clause-few c =
    let few = dependants_few c.args.inst.now.well_formed
    (listed c.args.s.0 c.requires.topology c.requires.service c.dependants-dependants.ensures) in
    omega (arith, few, c.loop-j.invariant.few, c.loop-j-test.false, c.loop-j.auto.j-end)
