-- The verdict on a move: the first cause for which it is refused, in the order Repeat, Same, the first constraint that
-- is broken after it, Rise; or Done with the cost after it.
use Rattle.std.specs.Prelude.{◌≡◌, ℕ, ◌+◌, ◌<◌, ◌≤◌, List, length, Option, Some, None, nat_lt, ◌==◌}
use Rattle.ra_base.specs.Searches.{or_else, first}
use Rattle.ra_base.specs.Sums.{is_named}
use Rattle.ra_base.specs.declared.causes.Cause.{Cause}
use Rattle.ra_base.specs.declared.causes.Cause.TheVariants.{Repeat, Same, Rise}
use Rattle.ra_model.specs.Broken.{cause_if}
use Rattle.ra_model.specs.Situations.{Situation, broken_at, cost_at}
use Rattle.ra_moves.specs.declared.steps.Step.{Step}
use Rattle.ra_moves.specs.declared.verdicts.Verdict.{Verdict}
use Rattle.ra_moves.specs.declared.verdicts.Verdict.TheVariants.{Done, Refused}
use Rattle.ra_moves.specs.Steps.{process_in, from_in, to_in}
use Rattle.ra_moves.specs.Replacing.{after_move}

-- step j names a process of an earlier step
unfoldable pub repeat_test : List Step → ℕ → Option Cause
repeat_test steps j =
    cause_if (is_named j (process_in steps) (process_in steps j))
    (Repeat (record { 0 = process_in steps j }))

unfoldable pub repeat_of : List Step → Option Cause
repeat_of steps = first (length steps) (repeat_test steps)

-- step j leaves its process where it is
unfoldable pub same_test : List Step → ℕ → Option Cause
same_test steps j =
    cause_if (from_in steps j == to_in steps j) (Same (record { 0 = process_in steps j }))

unfoldable pub same_of : List Step → Option Cause
same_of steps = first (length steps) (same_test steps)

-- the cause other than Rise for which a move is refused
unfoldable pub broken_by : Situation → List Step → Option Cause
broken_by st steps =
    or_else (repeat_of steps) (or_else (same_of steps) (broken_at (after_move st steps)))

-- the cost rises from `before` to `after`, which is more than the allowance permits
unfoldable pub rise_test : ℕ → ℕ → ℕ → Option Cause
rise_test before after allowed =
    cause_if (nat_lt (before + allowed) after) (Rise allowed before after)

-- refused for a cause if there is one, else done with a cost
unfoldable pub verdict_of : Option Cause → ℕ → Verdict
verdict_of None cost = Done cost
verdict_of (Some cause) cost = Refused cause

-- the verdict on a move
unfoldable pub judge : Situation → List Step → ℕ → Verdict
judge st steps allowed =
    let after = cost_at (after_move st steps) in
    verdict_of (or_else (broken_by st steps) (rise_test (cost_at st) after allowed)) after

-- a cost if the move breaks nothing and costs less than a bound, and none if it breaks something or costs no less
pub record IsMoveBelow (st : Situation) (steps : List Step) (bound : ℕ) (cost : Option ℕ) : Type 0
  where
    pub free : (n : ℕ) → cost ≡ Some n → broken_by st steps ≡ None
    pub found : (n : ℕ) → cost ≡ Some n → n ≡ cost_at (after_move st steps)
    pub below : (n : ℕ) → cost ≡ Some n → n < bound
    pub none : cost ≡ None → broken_by st steps ≡ None → bound ≤ cost_at (after_move st steps)
