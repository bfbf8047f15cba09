-- What the steps of a move take away from a sum over the processes and what they add, and the machines at their ends.
use Rattle.std.specs.Prelude.{ℕ, ◌+◌, ◌-◌, List, length, nat_lt, if◌then◌else◌}
use Rattle.ra_moves.specs.declared.steps.Step.{Step}
use Rattle.ra_moves.specs.Steps.{process_in, from_in, to_in}

-- the share of step j's process on the machine that it leaves, and on the one that it enters
unfoldable pub gone : (ℕ → ℕ → ℕ) → List Step → ℕ → ℕ
gone f steps j = f (process_in steps j) (from_in steps j)

unfoldable pub come : (ℕ → ℕ → ℕ) → List Step → ℕ → ℕ
come f steps j = f (process_in steps j) (to_in steps j)

-- the ends of the steps by number: first the machines that the steps leave, then those that they enter
unfoldable pub end_count : List Step → ℕ
end_count steps = length steps + length steps

unfoldable pub end_in : List Step → ℕ → ℕ
end_in steps j = if nat_lt j (length steps) then from_in steps j else to_in steps (j - length steps)
