use Rattle.std.proofs.Common.{arith}
use Rattle.test_samples.proofs.LotLaws.{two_lots}
use Rattle.test_reading.proofs.draws.two_lots.Goals as goal

pub of-requires : goal.of-requires
of-requires c = two_lots _ _ _ _ _ c.new-list.ensures.items c.in_ok-push.ensures.items c.in_ok-push-2.ensures.items
    c.seeded.ensures.fitting c.seeded-2.ensures.fitting
    (omega (arith, c.seeded.ensures.budget, c.seeded-2.ensures.budget))
