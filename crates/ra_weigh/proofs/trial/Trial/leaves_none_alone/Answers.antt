-- One dependant after another.
use Rattle.std.proofs.Common.{get_or, refl, arith}
use Rattle.ra_base.specs.declared.ids.Service.{Service}
use Rattle.ra_model.specs.Numbers.{neighbourhood_of}
use Rattle.ra_topology.specs.Lists.{service_at}
use Rattle.ra_weigh.specs.Trials.{tables_of, after_of}
use Rattle.ra_weigh.specs.Nearness.{LeavesNone}
use Rattle.ra_weigh.proofs.NextLemmas.{listed, dependant_at}
use Rattle.ra_weigh.proofs.HoldLemmas.{told_true, told_false}
use Rattle.ra_weigh.proofs.NearLemmas.{near_start, near_next, alone_all, alone_found, not_alone}
use Rattle.ra_weigh.proofs.trial.Trial.leaves_none_alone.Goals as goal

pub returns-then-dependants-eq0 : goal.returns-then-dependants-eq0
returns-then-dependants-eq0 c =
    told_true (alone_all _ _ c.args.s.0 c.args.s.0
    _ refl
    (listed _ c.args.self.now.topo.now c.args.s.0
    c.args.self.now.topology c.requires.service c.dependants-dependants.ensures)
    (omega (arith, c.if-dependants-eq0.true))
    (near_start (tables_of c.args.self.now) (after_of c.args.self.now)
    (neighbourhood_of (tables_of c.args.self.now) c.args.from.0) c.dependants-dependants.result.now))

pub returns-then-left-gt0 : goal.returns-then-left-gt0
returns-then-left-gt0 c = told_true (grind (arith, not_alone))

pub loop-k-init : goal.loop-k-init
loop-k-init c = grind (arith, near_start)

pub count_after-near-requires : goal.count_after-near-requires
unfolding service_at
count_after-near-requires c =
    (dependant_at _ c.args.s.0 c.loop-k.k c.dependants-dependants.result.now
    (listed _ c.args.self.now.topo.now c.args.s.0
    c.args.self.now.topology c.requires.service c.dependants-dependants.ensures) c.loop-k-test.true).0

pub returns-then-near-gt0 : goal.returns-then-near-gt0
unfolding service_at
returns-then-near-gt0 c = told_false (λ leaves. grind (arith, alone_found, listed))

pub loop-k-preserved : goal.loop-k-preserved
unfolding service_at
loop-k-preserved c = grind (arith, near_next)

pub returns : goal.returns
returns c = told_true (grind (arith, alone_all, listed))
