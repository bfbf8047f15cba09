-- The cost after a move, from the cost before it and what changes.
use Rattle.std.specs.Prelude.{ℕ, ◌*◌, ℤ, pos, ◌+ℤ◌, ◌-ℤ◌}

-- the cost so far, plus the local change, plus the weight times the change of the greatest moved count from `now` to
-- `after`
unfoldable pub settled_cost : ℕ → ℕ → ℕ → ℕ → ℤ → ℤ
settled_cost kept now after weight local =
    ((pos kept +ℤ local) +ℤ pos (weight * after)) -ℤ pos (weight * now)
