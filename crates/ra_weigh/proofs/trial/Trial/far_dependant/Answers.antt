-- The dependants ascend, and none so far is near.
use Rattle.std.proofs.Common.{get_or, refl, arith}
use Rattle.ra_base.specs.declared.ids.Service.{Service}
use Rattle.ra_model.specs.Numbers.{neighbourhood_of}
use Rattle.ra_topology.specs.Lists.{service_at}
use Rattle.ra_weigh.specs.Trials.{tables_of, after_of}
use Rattle.ra_weigh.proofs.NextLemmas.{listed}
use Rattle.ra_weigh.proofs.NearLemmas.{near_start, near_next}
use Rattle.ra_weigh.proofs.FarLemmas.{some_left, none_before, none_there, left_alone_there}
use Rattle.ra_weigh.proofs.trial.Trial.far_dependant.Goals as goal

pub returns-then-dependants-eq0-clause-leaves : goal.returns-then-dependants-eq0-clause-leaves
returns-then-dependants-eq0-clause-leaves c =
    let t = c.args.self.now in
    none_there _ _ c.args.s.0 _ c.args.next
    (listed _ t.topo.now c.args.s.0 t.topology c.requires.service c.dependants-dependants.ensures)
    c.requires.within (omega (arith, c.if-dependants-eq0.true))
    (near_start (tables_of t) (after_of t)
    (neighbourhood_of (tables_of t) c.args.from.0) c.dependants-dependants.result.now)

pub returns-then-left-gt0-clause-leaves : goal.returns-then-left-gt0-clause-leaves
returns-then-left-gt0-clause-leaves c = grind (arith, some_left)

pub returns-then-next-u-clause-leaves : goal.returns-then-next-u-clause-leaves
unfolding service_at
returns-then-next-u-clause-leaves c = grind (arith, none_before, listed)

pub returns-then-near-gt0-clause-leaves : goal.returns-then-near-gt0-clause-leaves
unfolding service_at
returns-then-near-gt0-clause-leaves c = grind (arith, none_before, listed)

pub returns-then-near-gt0-clause-far : goal.returns-then-near-gt0-clause-far
unfolding service_at
returns-then-near-gt0-clause-far c = λ nearer.
    let t = c.args.self.now in
    rw (← c.neighbourhood-label.ensures)
    (left_alone_there _ _ c.args.s.0 c.neighbourhood-label.result c.loop-k.k
    c.count_after-left.result c.count_after-near.result c.dependants-dependants.result.now
    (listed _ t.topo.now c.args.s.0 t.topology c.requires.service c.dependants-dependants.ensures)
    c.loop-k-test.true c.count_after-left.ensures c.if-left-gt0.false c.count_after-near.ensures
    c.if-near-gt0.true)

pub loop-k-preserved : goal.loop-k-preserved
unfolding service_at
loop-k-preserved c = grind (arith, near_next)

pub returns-clause-leaves : goal.returns-clause-leaves
returns-clause-leaves c = grind (arith, none_there, listed)
