-- Reads of a list of steps and of an assignment.
use Rattle.std.proofs.Common.{◌≡◌, ℕ, List, ◌∷◌, refl}
use Rattle.ra_moves.specs.declared.steps.Step.{Step}
use Rattle.ra_moves.specs.Steps.{step_at}

pub step_first : (i : ℕ) (s : Step) (steps : List Step) → i ≡ 0 → s ≡ step_at (s ∷ steps) i
unfolding step_at
step_first i s steps here = rw here refl

pub step_second : (i : ℕ) (s t : Step) (steps : List Step) → i ≡ 1 → t ≡ step_at (s ∷ t ∷ steps) i
unfolding step_at
step_second i s t steps here = rw here refl

pub step_third : (i : ℕ) (s t u : Step) (steps : List Step) → i ≡ 2 → u ≡ step_at (s ∷ t ∷ u ∷ steps) i
unfolding step_at
step_third i s t u steps here = rw here refl
