-- Moves with the same kind and the same steps are one.
use Rattle.std.proofs.Common.{◌≡◌, ℕ, ◌<◌, List, length, ap₂, arith}
use Rattle.std.proofs.lemmas.List.{ext_get_or}
use Rattle.ra_moves.specs.declared.steps.MoveKind.{MoveKind}
use Rattle.ra_moves.specs.declared.steps.Step.{Step}
use Rattle.ra_moves.specs.MoveSteps.{MoveSteps}
use Rattle.ra_moves.specs.Steps.{step_at}

-- the first n steps are the same
pub record SameFirst (xs ys : List Step) (n : ℕ) : Type 0 where
  pub each : (j : ℕ) → j < n → step_at xs j ≡ step_at ys j

-- all of them are
pub same_steps : (xs ys : List Step) (n : ℕ) → length xs ≡ length ys → n ≡ length xs → SameFirst xs ys n → xs ≡ ys
unfolding step_at
same_steps xs ys n long all same = ext_get_or _ xs ys long (λ j within. same.each j (omega arith))

pub one_move : (a b : MoveSteps) → a.kind ≡ b.kind → a.steps ≡ b.steps → a ≡ b
one_move a b kind steps =
    let as_move : MoveKind → List Step → MoveSteps = λ k x. record { kind = k; steps = x } in ap₂ as_move kind steps
