-- What a contract sees of a `Move`: its kind and the list of its steps.
use Rattle.std.specs.Prelude.{ℕ, List}
use Rattle.ra_moves.specs.declared.steps.MoveKind.{MoveKind}
use Rattle.ra_moves.specs.declared.steps.MoveKind.TheVariants.{Shift, Swap, Chain}
use Rattle.ra_moves.specs.declared.steps.Step.{Step}

pub record MoveSteps : Type 0 where
  pub kind : MoveKind
  pub steps : List Step

-- how many steps a move of a kind has
unfoldable pub step_count : MoveKind → ℕ
step_count Shift = 1
step_count Swap = 2
step_count Chain = 3
