-- Two drafts of which one has a process more than the other.
use Rattle.std.specs.Prelude.{◌≡◌, ◌≢◌, ℕ, ◌+◌, ◌<◌, length}
use Rattle.ra_base.specs.Sums.{total}
use Rattle.ra_model.specs.Numbers.{resource_count, service_of, process_cost_of, requirement_of}
use Rattle.ra_model.specs.Assignments.{machine_at}
use Rattle.ra_edit.specs.Drafts.{Drafted, instance_of}

-- process k of one draft is process q of another: it has the same service, cost, requirements and machines
pub record IsSame (low : Drafted) (k : ℕ) (high : Drafted) (q : ℕ) : Type 0 where
  pub service : service_of (instance_of low) k ≡ service_of (instance_of high) q
  pub cost : process_cost_of (instance_of low) k ≡ process_cost_of (instance_of high) q
  pub requirement : (r : ℕ) → r < resource_count low.origin
      → requirement_of (instance_of low) k r ≡ requirement_of (instance_of high) q r
  pub home : machine_at low.initial k ≡ machine_at high.initial q
  pub here : machine_at low.current k ≡ machine_at high.current q

-- the second draft has process p in addition to those of the first, whatever numbers they have
pub record OneMore (low high : Drafted) (p : ℕ) : Type 0 where
  pub origin : high.origin ≡ low.origin
  pub size : length high.rows ≡ length low.rows + 1
  pub there : p < length high.rows
  -- each process of the first is one of the second
  pub kept : (k : ℕ) → k < length low.rows
      → (q : ℕ) × (q < length high.rows) × (q ≢ p) × IsSame low k high q
  -- each process of the second but p is one of the first
  pub others : (q : ℕ) → q < length high.rows → q ≢ p
      → (k : ℕ) × (k < length low.rows) × IsSame low k high q
  -- a sum over the processes of the second is the sum over those of the first plus what process p adds
  pub sums : (f g : ℕ → ℕ)
      → ((k q : ℕ) → k < length low.rows → q < length high.rows → IsSame low k high q → f k ≡ g q)
      → total (length high.rows) g ≡ total (length low.rows) f + g p
