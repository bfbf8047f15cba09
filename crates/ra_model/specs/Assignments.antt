-- An assignment gives each process one machine.
use Rattle.std.specs.Prelude.{◌≡◌, ℕ, ◌<◌, List, length, slice_index_or}
use Rattle.ra_base.specs.Sums.{total}
use Rattle.ra_base.specs.declared.ids.Machine.{Machine}
use Rattle.ra_model.specs.declared.raw.Tables.{Tables}
use Rattle.ra_model.specs.Numbers.{machine_count, process_count}

-- A(p), the machine of process p
unfoldable pub machine_at : List Machine → ℕ → ℕ
machine_at a p = (slice_index_or a p (record { 0 = 0 })).0

-- an assignment fits an instance: one machine of the instance for each of its processes
pub record IsAssignment (i : Tables) (a : List Machine) : Type 0 where
  pub one_each : length a ≡ process_count i
  pub in_range : (p : ℕ) → p < process_count i → machine_at a p < machine_count i

-- the sum over the first n processes p of what f gives for p and its machine
unfoldable pub tally : ℕ → (ℕ → ℕ → ℕ) → List Machine → ℕ
tally n f a = total n (λ p. f p (machine_at a p))
