-- How many processes two assignments put on different machines.
use Rattle.std.specs.Prelude.{ℕ, not, ◌==◌, List}
use Rattle.ra_base.specs.Sums.{one_if, count}
use Rattle.ra_base.specs.declared.ids.Machine.{Machine}
use Rattle.ra_model.specs.Assignments.{machine_at}

-- one for two different machines, else zero
unfoldable pub one_apart : ℕ → ℕ → ℕ
one_apart m n = one_if (not (m == n))

-- how many of the first n processes have different machines
unfoldable pub differing : ℕ → List Machine → List Machine → ℕ
differing n a b = count n (λ p. not (machine_at a p == machine_at b p))
