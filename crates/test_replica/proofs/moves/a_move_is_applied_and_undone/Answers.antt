use Rattle.std.proofs.Common.{◌≡◌, ℕ, zero, suc, ◌<◌, [], ◌∷◌, refl, sym, ap, ◌∙◌, arith}
use Rattle.ra_base.specs.declared.ids.Machine.{Machine}
use Rattle.ra_model.specs.Assignments.{machine_at}
use Rattle.ra_moves.specs.declared.steps.Step.{Step}
use Rattle.ra_moves.specs.Steps.{step_at, process_in, from_in, StandsAt}
use Rattle.test_replica.proofs.moves.a_move_is_applied_and_undone.Goals as goal

one_step : (s : Step) (j : ℕ) → j < 1 → step_at (s ∷ []) j ≡ s
unfolding step_at
one_step s zero within = refl
one_step s (suc j) within = absurd (omega arith)

-- a step of process 1 from its machine
second_stands : (s : Step) (x y z : Machine) → s.process.0 ≡ 1 → s.from.0 ≡ y.0 →
    StandsAt from_in (s ∷ []) (x ∷ y ∷ z ∷ [])
unfolding process_in from_in machine_at
second_stands s x y z process from = record {
  known = λ j within. let is : process_in (s ∷ []) j ≡ 1 = ap (λ (t : Step). t.process.0) (one_step s j within)
      ∙ process in omega arith;
  at = λ j within. ap (machine_at (x ∷ y ∷ z ∷ [])) (ap (λ (t : Step). t.process.0) (one_step s j within) ∙ process)
      ∙ sym (ap (λ (t : Step). t.from.0) (one_step s j within) ∙ from);
}

pub there_and_back-requires-clause-at_from : goal.there_and_back-requires-clause-at_from
there_and_back-requires-clause-at_from g c =
    rw (c.shift-mv.ensures, c.three-a.ensures)
    (second_stands c.step.result _ _ _ c.step.ensures.process c.step.ensures.from)
