use Rattle.std.proofs.Common.{◌≡◌, length, refl, sym, ap, ◌∙◌, arith}
use Rattle.ra_moves.specs.Replacing.{after_steps, applied, turned}
use Rattle.ra_moves.proofs.Applying.{reaches, after_none, back_more, back_all, back}
use Rattle.ra_moves.proofs.replace.undo.Goals as goal

pub set-requires : goal.set-requires
set-requires c = reaches _ _ _ _ _ _ _ c.requires.at_to (omega (arith, c.steps-i-end.ensures.value)) c.step-step.ensures
    c.loop-i.invariant.0

pub loop-i-init : goal.loop-i-init
loop-i-init c = (sym (after_none _ _), refl)

pub loop-i-preserved : goal.loop-i-preserved
loop-i-preserved c = (
  c.set.ensures.items ∙ back_more _ _ _ _ _ c.step-step.ensures c.loop-i.invariant.0,
  c.set.ensures.room
      ∙ c.loop-i.invariant.1,
)

pub returns : goal.returns
returns c =
    let all : c.loop-i.i ≡ length c.args.mv.now.steps = omega (arith, c.steps-i-end.ensures.value) in
    let is : c.loop-i.a.items ≡ applied c.args.a.now.items (turned c.args.mv.now.steps) = c.loop-i.invariant.0
    ∙ ap (after_steps c.args.a.now.items (turned c.args.mv.now.steps)) all
    ∙ sym (back_all c.args.a.now.items c.args.mv.now.steps) in
    let there = back _ _ _ c.requires.distinct c.requires.at_to is in
    record {
      at_from = there.at_from;
      was = there.was;
      gives_back = there.gives_back;
      room = c.loop-i.invariant.1;
    }
