-- What the tests say of a pass before and after their calls.
use Rattle.std.specs.Prelude.{◌≡◌, ℕ, ◌+◌, ◌≤◌, []}
use Rattle.ra_turn.specs.declared.story.Story.{Ghosts}
use Rattle.ra_turn.specs.declared.pass.Pass.{Pass}
use Rattle.ra_turn.specs.declared.turn.Turn.{Turn}
use Rattle.ra_turn.specs.Passes.{IsReady, grips_of}

module _ {V N O : Type 0} {g : Ghosts V N O} where
  -- pass n of the lock is ready and has no guard locked
  abbrev pub IsFree : Turn V N O → ℕ → Pass V N O g → Type 0
  IsFree t n p = IsReady t p × (p.number ≡ n) × (grips_of p ≡ [])

  -- a pass is ready, has no guard locked, and may take this number of turns
  abbrev pub MayTake : Turn V N O → ℕ → Pass V N O g → Type 0
  MayTake t turns p = IsReady t p × (turns ≤ p.left) × (grips_of p ≡ [])

  -- pass n of the lock may take this number of turns
  abbrev pub NumberMayTake : Turn V N O → ℕ → ℕ → Pass V N O g → Type 0
  NumberMayTake t n turns p = IsReady t p × (p.number ≡ n) × (turns ≤ p.left) × (grips_of p ≡ [])

  -- a pass after one turn, in which it neither locked nor unlocked a guard
  abbrev pub HasTakenBareTurn : Turn V N O → Pass V N O g → Pass V N O g → Type 0
  HasTakenBareTurn t p q =
      IsReady t q × (q.number ≡ p.number) × (q.left + 1 ≡ p.left) × (grips_of q ≡ grips_of p)

  -- a pass after one turn, with no guard locked
  abbrev pub HasLetGo : Turn V N O → Pass V N O g → Pass V N O g → Type 0
  HasLetGo t p q = IsReady t q × (q.number ≡ p.number) × (q.left + 1 ≡ p.left) × (grips_of q ≡ [])
