-- Each step is a step of the move, and reads one row.
use Rattle.std.proofs.Common.{◌≡◌, ◌∙◌, length, sym, ap, arith}
use Rattle.ra_moves.specs.Replacing.{after_steps, applied}
use Rattle.ra_moves.proofs.Applying.{after_none, applied_more}
use Rattle.ra_world.proofs.StepLaws.{step_of, counted_more}
use Rattle.ra_world.proofs.following.follow.Goals as goal

pub loop-j-init : goal.loop-j-init
loop-j-init g c = record { keeps = c.requires.keeps; made = sym (after_none _ _); counted = omega arith }

pub follow_step-requires-clause-process : goal.follow_step-requires-clause-process
follow_step-requires-clause-process g c =
    (step_of
    c.loop-j.j c.requires.keeps.stand.fits c.requires.moves
    (omega (arith, c.steps-j-end.ensures.value)) c.loop-j.invariant.made c.step.ensures).known

pub follow_step-requires-clause-to : goal.follow_step-requires-clause-to
follow_step-requires-clause-to g c =
    (step_of
    c.loop-j.j c.requires.keeps.stand.fits c.requires.moves
    (omega (arith, c.steps-j-end.ensures.value)) c.loop-j.invariant.made c.step.ensures).reach

pub follow_step-requires-clause-apart : goal.follow_step-requires-clause-apart
follow_step-requires-clause-apart g c =
    (step_of
    c.loop-j.j c.requires.keeps.stand.fits c.requires.moves
    (omega (arith, c.steps-j-end.ensures.value)) c.loop-j.invariant.made c.step.ensures).apart

pub follow_step-requires-clause-at_from : goal.follow_step-requires-clause-at_from
follow_step-requires-clause-at_from g c =
    (step_of
    c.loop-j.j c.requires.keeps.stand.fits c.requires.moves
    (omega (arith, c.steps-j-end.ensures.value)) c.loop-j.invariant.made c.step.ensures).at_from

pub loop-j-preserved : goal.loop-j-preserved
loop-j-preserved g c = record {
  keeps = c.follow_step.ensures.keeps;
  made = c.follow_step.ensures.assignment ∙ applied_more _ _ _ _ _ c.step.ensures c.loop-j.invariant.made;
  counted = counted_more _ c.loop-j.j _ c.loop-j.invariant.counted c.follow_step.ensures.counted;
}

pub returns-clause-assignment : goal.returns-clause-assignment
unfolding applied
returns-clause-assignment g c =
    let all : c.loop-j.j ≡ length c.args.mv.now.steps = omega (arith, c.steps-j-end.ensures.value) in
    c.loop-j.invariant.made ∙ ap (after_steps c.args.kept.now.assignment.items c.args.mv.now.steps) all

pub returns-clause-counted : goal.returns-clause-counted
returns-clause-counted g c =
    let all : c.loop-j.j ≡ length c.args.mv.now.steps = omega (arith, c.steps-j-end.ensures.value) in
    rw all at c.loop-j.invariant.counted
