use Rattle.std.proofs.Common.{arith}
use Rattle.test_samples.proofs.LotLaws.{two_lots}
use Rattle.test_samples.proofs.lots.two_lots.Goals as goal

pub of-requires : goal.of-requires
of-requires c = two_lots _ _ _ _ _ c.new-lots.ensures.items c.in_ok-push.ensures.items c.in_ok-push-2.ensures.items
    c.in_ok-written.ensures.fitting c.in_ok-written-2.ensures.fitting
    (omega (arith, c.requires.few, c.in_ok-written.ensures.budget, c.in_ok-written-2.ensures.budget))
