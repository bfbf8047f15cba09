use Rattle.std.proofs.Common.{◌∙◌, ap, List}
use Rattle.ra_base.specs.declared.ids.Machine.{Machine}
use Rattle.ra_model.specs.Situations.{Situation}
use Rattle.ra_worker.proofs.FollowingLemmas.{done_unbroken, done_moves, after_done, after_refused}
use Rattle.ra_worker.proofs.following.follow.Goals as goal

pub apply-requires-clause-at_from : goal.apply-requires-clause-at_from
apply-requires-clause-at_from g c = (done_moves _ _ c.in-Done.cost _ c.requires.judged c.in-Done.is).stands

pub apply-requires-clause-to : goal.apply-requires-clause-to
apply-requires-clause-to g c = (done_moves _ _ c.in-Done.cost _ c.requires.judged c.in-Done.is).reaches

pub apply-requires-clause-unbroken : goal.apply-requires-clause-unbroken
apply-requires-clause-unbroken g c = done_unbroken _ _ c.in-Done.cost _ c.requires.judged c.in-Done.is

pub returns-in-Done-clause-world : goal.returns-in-Done-clause-world
returns-in-Done-clause-world g c = c.apply.ensures.moved
    ∙ ap (λ (b : List Machine). let st : Situation = record c.args.world.now { here = b } in st)
    (after_done c.args.world.now.here c.args.mv.now.steps c.in-Done.cost _ c.in-Done.is)

pub returns-in-Refused-clause-world : goal.returns-in-Refused-clause-world
returns-in-Refused-clause-world g c =
    ap (λ (b : List Machine). let st : Situation = record c.args.world.now { here = b } in st)
    (after_refused c.args.world.now.here c.args.mv.now.steps c.in-Refused.cause _ c.in-Refused.is)
