-- The rise of cost that a proposal may bring: it falls from the slack to 0 as the budget is used.
use Rattle.std.specs.Prelude.{ℕ, ◌-◌, ◌*◌, ◌/◌}

-- floor(slack * (budget - 1 - k) / budget), the rise that proposal k may bring
unfoldable pub allowance : ℕ → ℕ → ℕ → ℕ
allowance slack budget k = slack * (budget - 1 - k) / budget
