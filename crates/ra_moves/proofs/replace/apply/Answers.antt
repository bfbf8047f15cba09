use Rattle.std.proofs.Common.{◌≡◌, length, refl, sym, ap, ◌∙◌, arith}
use Rattle.ra_moves.specs.Replacing.{Applied, after_steps, applied}
use Rattle.ra_moves.proofs.Applying.{reaches, applied_more, after_none, applied_at_once, applied_once}
use Rattle.ra_moves.proofs.replace.apply.Goals as goal

pub set-requires : goal.set-requires
set-requires c = reaches _ _ _ _ _ _ _ c.requires.at_from (omega (arith, c.steps-i-end.ensures.value))
    c.step-step.ensures c.loop-i.invariant.0

pub loop-i-init : goal.loop-i-init
loop-i-init c = (sym (after_none _ _), refl)

pub loop-i-preserved : goal.loop-i-preserved
loop-i-preserved c = (
  c.set.ensures.items ∙ applied_more _ _ _ _ _ c.step-step.ensures c.loop-i.invariant.0,
  c.set.ensures.room
      ∙ c.loop-i.invariant.1,
)

pub returns : goal.returns
unfolding applied
returns c =
    let all : c.loop-i.i ≡ length c.args.mv.now.steps = omega (arith, c.steps-i-end.ensures.value) in
    let is : c.loop-i.a.items ≡ applied c.args.a.now.items c.args.mv.now.steps = c.loop-i.invariant.0
    ∙ ap (after_steps c.args.a.now.items c.args.mv.now.steps) all in
    let once = applied_at_once c.args.a.now.items c.args.mv.now.steps c.requires.distinct c.requires.at_from.known in
    let outcome : Applied c.args.mv.now.steps c.args.a.now.items c.loop-i.a.items = rw is once in
    record {
      at_once = outcome;
      only = λ b done. applied_once _ _ _ _ done once ∙ sym is;
      at_to = record {
        known = λ j within. omega (arith, outcome.same_length, c.requires.at_from.known j within);
        at = outcome.moved;
      };
      in_turn = is;
      room = c.loop-i.invariant.1;
    }
