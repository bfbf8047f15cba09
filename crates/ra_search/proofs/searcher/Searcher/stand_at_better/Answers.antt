-- The parts of a kept list tell its cost.
use Rattle.std.proofs.Common.{◌≤◌, arith, sym, subst}
use Rattle.ra_model.specs.Situations.{Situation, cost_at}
use Rattle.ra_weigh.proofs.CostLaws.{total_now}
use Rattle.ra_search.proofs.searcher.Searcher.stand_at_better.Goals as goal

pub returns-then-kept-parts-clause-no_dearer : goal.returns-then-kept-parts-clause-no_dearer
returns-then-kept-parts-clause-no_dearer g c =
    let old : Situation = c.args.self.now.world in
    let kept = total_now c.requires.sound c.requires.parts in
    let now = total_now c.parts.ensures.sound c.parts.ensures.value in
    subst (λ (st : Situation). cost_at st ≤ cost_at old) (sym c.stand_at.ensures)
    (omega (arith, kept, now, c.if-kept-parts.true))

pub returns-then-kept-parts-clause-below : goal.returns-then-kept-parts-clause-below
returns-then-kept-parts-clause-below g c =
    let kept = total_now c.requires.sound c.requires.parts in
    subst (λ (st : Situation). cost_at st ≤ c.args.kept.now.parts.total) (sym c.stand_at.ensures)
    (omega (arith, kept))

pub returns-clause-below : goal.returns-clause-below
returns-clause-below g c =
    omega (arith, total_now c.parts.ensures.sound c.parts.ensures.value, c.if-kept-parts.false)
