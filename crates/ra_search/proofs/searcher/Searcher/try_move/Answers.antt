-- The move is judged by its cost below the bound that the allowance leaves.
use Rattle.std.proofs.Common.{◌≡◌, ℕ, ◌+◌, arith, true, refl, sym, subst, Some, None}
use Rattle.ra_model.specs.Situations.{Situation}
use Rattle.ra_moves.specs.Judging.{IsMoveBelow}
use Rattle.ra_search.specs.Moving.{HasMade}
use Rattle.ra_search.proofs.JudgeLemmas.{made, refused}
use Rattle.ra_search.proofs.StepLemmas.{offered, may_stand, stands_at, reaches, no_repeat}
use Rattle.ra_weigh.proofs.CostLaws.{total_now, total_few}
use Rattle.ra_search.proofs.searcher.Searcher.try_move.Goals as goal

pub overflow_add-bound : goal.overflow_add-bound
overflow_add-bound g c = omega (arith, total_few c.parts.ensures.sound c.parts.ensures.value, c.requires)

pub overflow_add-bound-2 : goal.overflow_add-bound-2
overflow_add-bound-2 g c = omega (arith, total_few c.parts.ensures.sound c.parts.ensures.value, c.requires)

pub returns-then-not-stands-clause-tried : goal.returns-then-not-stands-clause-tried
returns-then-not-stands-clause-tried g c = record {
  made = λ done. absurd (cc);
  left = λ not_done. refl;
  refused = λ cost not_done may judged.
      let stand : c.stands.result ≡ true =
      c.stands.ensures.stands.1 (may_stand c.args.self.now.world c.args.mv.now.steps c.parts.ensures.sound may) in
      absurd (cc (stand, c.if-not-stands.true));
}

pub cost_below-requires : goal.cost_below-requires
cost_below-requires g c = record {
  offered = offered c.args.self.now.world c.args.mv.now.steps c.parts.ensures.sound
      (c.stands.ensures.stands.0 c.if-not-stands.false) c.stands.ensures.few;
}

pub apply-requires-clause-at_from : goal.apply-requires-clause-at_from
apply-requires-clause-at_from g c =
    stands_at c.args.self.now.world c.args.mv.now.steps c.parts.ensures.sound
    (c.stands.ensures.stands.0 c.if-not-stands.false)

pub apply-requires-clause-to : goal.apply-requires-clause-to
apply-requires-clause-to g c =
    reaches c.args.self.now.world c.args.mv.now.steps (c.stands.ensures.stands.0 c.if-not-stands.false)

pub returns-in-None-clause-tried : goal.returns-in-None-clause-tried
returns-in-None-clause-tried g c =
    let st : Situation = c.args.self.now.world in
    let steps = c.args.mv.now.steps in
    let below = subst (λ (n : ℕ). IsMoveBelow st steps (n + c.args.allowed + 1) None)
    (total_now c.parts.ensures.sound c.parts.ensures.value) c.in-None.ensures.below in
    record {
      made = λ done. absurd (cc);
      left = λ not_done. refl;
      refused = λ cost not_done may judged. refused st steps c.args.allowed below cost judged;
    }

pub returns-in-Some-clause-tried : goal.returns-in-Some-clause-tried
returns-in-Some-clause-tried g c =
    let st : Situation = c.args.self.now.world in
    let steps = c.args.mv.now.steps in
    let below = subst (λ (n : ℕ). IsMoveBelow st steps (n + c.args.allowed + 1) (Some c.in-Some._after))
    (total_now c.parts.ensures.sound c.parts.ensures.value) c.in-Some.ensures.below in
    let may = offered st steps c.parts.ensures.sound (c.stands.ensures.stands.0 c.if-not-stands.false)
    c.stands.ensures.few (no_repeat st steps (below.free _ refl)) in
    record {
      made = λ done. subst (λ (new : Situation). HasMade st new steps c.args.allowed) (sym c.apply.ensures.moved)
          (made st steps c.args.allowed _ below may);
      left = λ not_done. absurd (cc);
      refused = λ cost not_done. absurd (cc);
    }
