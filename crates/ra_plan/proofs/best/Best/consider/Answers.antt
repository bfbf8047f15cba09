use Rattle.std.proofs.Common.{sym, ◌∙◌}
use Rattle.ra_plan.proofs.Bests.{best_done, best_refused}
use Rattle.ra_plan.proofs.best.Best.consider.Goals as goal

pub or_done-requires : goal.or_done-requires
or_done-requires c = tt

pub returns-in-Done : goal.returns-in-Done
returns-in-Done c =
    λ w x d allowed best verdict. rw c.or_done.ensures (best_done w x d allowed _ _ _ best (sym c.in-Done.is ∙ verdict))

pub returns-in-Refused : goal.returns-in-Refused
returns-in-Refused c =
    λ w x d allowed best verdict. best_refused w x d allowed _ _ _ best (sym c.in-Refused.is ∙ verdict)
