-- The lengths of a sketch's lists.
use Rattle.std.specs.Prelude.{◌≡◌, ℕ, ◌*◌}
use Rattle.ra_model.specs.declared.raw.Tables.{Tables}
use Rattle.ra_model.specs.Numbers.{resource_count, machine_count}

-- a weight for each resource, three rows and a cost for each machine
pub record HaveSizes (i : Tables) (weights rows costs : ℕ) : Type 0 where
  pub one_weight_each : weights ≡ resource_count i
  pub three_rows_each : rows ≡ machine_count i * (3 * resource_count i)
  pub one_cost_each : costs ≡ machine_count i
