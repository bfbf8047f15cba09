-- Each step is a step of the move.
use Rattle.std.proofs.Common.{◌≡◌, ◌∙◌, length, sym, ap, arith}
use Rattle.ra_moves.specs.Replacing.{after_steps, applied}
use Rattle.ra_moves.proofs.Applying.{after_none, applied_more}
use Rattle.ra_repair.proofs.MoveLemmas.{step_of}
use Rattle.ra_repair.proofs.following.follow.Goals as goal

pub loop-j-init : goal.loop-j-init
loop-j-init g c = record { keeps = c.requires.keeps; made = sym (after_none _ _) }

pub follow_step-requires : goal.follow_step-requires
follow_step-requires g c =
    let step = step_of c.args.inst.now.tables c.args.kept.now.assignment.items c.loop-j.kept.assignment.items
    c.args.mv.now.steps c.loop-j.j c.step.result c.requires.keeps.stands.fits c.requires.moves
    (omega (arith, c.loop-j-test.true, c.steps-j-end.ensures.value)) c.loop-j.invariant.made c.step.ensures in
    record {
      start = c.requires.start;
      topology = c.requires.topology;
      keeps = c.loop-j.invariant.keeps;
      process = step.known;
      to = step.reach;
      apart = step.apart;
      at_from = step.at_from;
    }

pub loop-j-preserved : goal.loop-j-preserved
loop-j-preserved g c = record {
  keeps = c.follow_step.ensures.keeps;
  made = c.follow_step.ensures.assignment ∙ applied_more _ _ _ _ _ c.step.ensures c.loop-j.invariant.made;
}

pub returns-clause-assignment : goal.returns-clause-assignment
unfolding applied
returns-clause-assignment g c =
    let all : c.loop-j.j ≡ length c.args.mv.now.steps =
    omega (arith, c.loop-j-test.false, c.loop-j.auto.j-end, c.steps-j-end.ensures.value) in
    c.loop-j.invariant.made ∙ ap (after_steps c.args.kept.now.assignment.items c.args.mv.now.steps) all
