use Rattle.std.proofs.Common.{arith}
use Rattle.test_samples.proofs.LotLaws.{one_lot}
use Rattle.test_samples.proofs.lots.one_lot.Goals as goal

pub of-requires : goal.of-requires
of-requires c = one_lot _ _ _ c.new-lots.ensures.items c.in_ok-push.ensures.items c.in_ok-written.ensures.fitting
    (omega (arith, c.requires.few, c.in_ok-written.ensures.budget))
