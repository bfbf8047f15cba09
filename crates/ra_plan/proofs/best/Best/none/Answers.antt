use Rattle.std.proofs.Common.{refl}
use Rattle.ra_plan.proofs.Bests.{best_none}
use Rattle.ra_plan.proofs.best.Best.none.Goals as goal

pub returns : goal.returns
returns c = λ w x d allowed. best_none w x d allowed _ refl refl
