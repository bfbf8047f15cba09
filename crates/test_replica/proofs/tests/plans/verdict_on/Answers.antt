use Rattle.test_replica.proofs.tests.plans.verdict_on.Goals as goal

pub verdict-requires : goal.verdict-requires
verdict-requires c = record {
  some = record { steps = c.args.planned.now.mv.steps; offered = c.requires.offered; is = c.requires.weighed };
}
