use Rattle.std.proofs.Common.{◌≡◌, length, sym, ap, ◌∙◌, refl, arith}
use Rattle.ra_moves.specs.MoveSteps.{step_count}
use Rattle.plain.proofs.SameMoves.{same_steps}
use Rattle.plain.proofs.comparing.has_same_steps.Goals as goal

pub returns : goal.returns
returns c =
    let long : length c.args.one.now.steps ≡ length c.args.other.now.steps = sym c.steps-j-end.ensures.value
    ∙ c.steps-j-end.ensures.kind ∙ ap step_count c.requires ∙ sym c.steps-same_count.ensures.kind
    ∙ c.steps-same_count.ensures.value in (
      λ yes. same_steps _ _ c.loop-j.j long
          (omega (arith, c.loop-j-test.false, c.loop-j.auto.j-end, c.steps-j-end.ensures.value)) c.loop-j.invariant,
      λ same. refl,
    )
