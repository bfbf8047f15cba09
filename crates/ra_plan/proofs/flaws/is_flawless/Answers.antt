use Rattle.std.proofs.lemmas.Bool.{not-true, eqb-false}
use Rattle.ra_plan.proofs.Flawless.{flawless_one, flawless_two, flawless_three}
use Rattle.ra_plan.proofs.flaws.is_flawless.Goals as goal

pub returns-then-count-eq1 : goal.returns-then-count-eq1
returns-then-count-eq1 c =
    λ yes. flawless_one _ _ _ c.steps-count.ensures.value c.if-count-eq1.true c.step-one.ensures c.if-one.false

pub returns-then-count-eq2 : goal.returns-then-count-eq2
returns-then-count-eq2 c =
    λ yes. flawless_two _ c.steps-count.ensures.value c.if-count-eq2.true c.step-one.ensures c.if-one.false
    c.step-two.ensures c.if-two.false c.if-one-two.false

pub returns : goal.returns
returns c =
    λ yes. flawless_three _ _ c.steps-count.ensures.value c.steps-count.ensures.few c.if-count-eq1.false
    c.if-count-eq2.false c.steps-count.ensures.some c.step-one.ensures c.if-one.false c.step-two.ensures c.if-two.false
    c.if-one-two.false c.step-three.ensures c.if-three.false c.if-one-three.false (eqb-false _ _ (not-true _ yes))
