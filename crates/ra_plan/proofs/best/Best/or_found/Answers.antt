-- A cost that was found is the best.
use Rattle.ra_plan.proofs.Bests.{bound_falls, beat_found, beat_before}
use Rattle.ra_plan.proofs.Below.{move_found, move_stays}
use Rattle.ra_plan.proofs.best.Best.or_found.Goals as goal

pub returns-in-Some-clause-best : goal.returns-in-Some-clause-best
returns-in-Some-clause-best c = λ w x d allowed steps is same below. move_found w _ steps c.args.self
    c.args.found is same below c.in-Some.is

pub returns-in-None-clause-best : goal.returns-in-None-clause-best
returns-in-None-clause-best c = λ w x d allowed steps is same below. move_stays w is same below c.in-None.is

pub returns-in-Some-clause-bound : goal.returns-in-Some-clause-bound
returns-in-Some-clause-bound c =
    λ w steps most below. bound_falls w steps most _ c.args.self.cost c.args.found below c.in-Some.is

pub returns-in-Some-clause-next : goal.returns-in-Some-clause-next
returns-in-Some-clause-next c = λ most. beat_found c.args.self.cost most _ c.in-Some.is

pub returns-in-None-clause-next : goal.returns-in-None-clause-next
returns-in-None-clause-next c = λ most. beat_before c.args.self.cost most c.in-None.is
