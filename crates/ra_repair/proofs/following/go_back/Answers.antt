-- Each step is a step of the move, turned.
use Rattle.std.proofs.Common.{◌≡◌, ◌∙◌, length, sym, refl, ap, arith}
use Rattle.ra_moves.specs.Replacing.{after_steps, turned, turned_step}
use Rattle.ra_moves.proofs.Applying.{after_none, back_more, back_all}
use Rattle.ra_repair.proofs.MoveLemmas.{back_of}
use Rattle.ra_repair.proofs.following.go_back.Goals as goal

pub loop-j-init : goal.loop-j-init
loop-j-init g c = record { stands = c.requires.stands; made = sym (after_none _ _); penalty = refl }

pub put-requires : goal.put-requires
unfolding turned_step
put-requires g c =
    let back = back_of c.args.inst.now.tables c.args.kept.now.assignment.items c.loop-j.kept.assignment.items
    c.args.mv.now.steps c.loop-j.j c.step-step.result c.requires.stands.fits c.requires.made
    (omega (arith, c.loop-j-test.true, c.steps-j-end.ensures.value)) c.loop-j.invariant.made c.step-step.ensures in
    record {
      stands = c.loop-j.invariant.stands;
      process = back.known;
      to = back.reach;
      apart = back.apart;
      at_from = back.at_from;
    }

pub loop-j-preserved : goal.loop-j-preserved
loop-j-preserved g c = record {
  stands = c.put.ensures.stands;
  made = c.put.ensures.assignment ∙ back_more _ _ _ _ _ c.step-step.ensures c.loop-j.invariant.made;
  penalty = c.put.ensures.penalty ∙ c.loop-j.invariant.penalty;
}

pub returns-clause-assignment : goal.returns-clause-assignment
returns-clause-assignment g c =
    let all : c.loop-j.j ≡ length c.args.mv.now.steps =
    omega (arith, c.loop-j-test.false, c.loop-j.auto.j-end, c.steps-j-end.ensures.value) in
    c.loop-j.invariant.made ∙ ap (after_steps c.args.kept.now.assignment.items (turned c.args.mv.now.steps)) all
    ∙ sym (back_all _ _)
