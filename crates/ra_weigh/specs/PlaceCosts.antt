-- What a machine adds to the cost, and what a process on its machine adds.
use Rattle.std.specs.Prelude.{ℕ, ◌+◌, ◌*◌, List}
use Rattle.ra_base.specs.declared.ids.Machine.{Machine}
use Rattle.ra_model.specs.declared.raw.Tables.{Tables}
use Rattle.ra_model.specs.Numbers.{process_weight_of, machine_weight_of}
use Rattle.ra_model.specs.Costs.{process_share, way_share}
use Rattle.ra_model.specs.MachineCosts.{machine_load, machine_balance}

-- the load and the balance cost of machine m in an assignment
unfoldable pub row_cost : Tables → List Machine → ℕ → ℕ
row_cost i a m = machine_load i a m + machine_balance i a m

-- what process p on machine `at` adds to the process cost and to the machine cost
unfoldable pub place_cost : Tables → List Machine → ℕ → ℕ → ℕ
place_cost i a0 p at =
    process_weight_of i * process_share i a0 p at + machine_weight_of i * way_share i a0 p at
