-- The five parts of the objective, each multiplied by its weight. With ℕ's minus `a - b` is max(0, a - b).
use Rattle.std.specs.Prelude.{ℕ, ◌+◌, ◌-◌, ◌*◌, List, if◌then◌else◌, ◌==◌}
use Rattle.ra_base.specs.Sums.{total, greatest}
use Rattle.ra_base.specs.declared.costs.Parts.{Parts}
use Rattle.ra_base.specs.declared.ids.Machine.{Machine}
use Rattle.ra_model.specs.declared.raw.Tables.{Tables}
use Rattle.ra_model.specs.Numbers.{resource_count, machine_count, service_count, process_count, balance_count}
use Rattle.ra_model.specs.Numbers.{load_weight_of, capacity_of, safety_of, way_cost_of, process_cost_of, first_of}
use Rattle.ra_model.specs.Numbers.{second_of, target_of, balance_weight_of, process_weight_of, service_weight_of}
use Rattle.ra_model.specs.Numbers.{machine_weight_of}
use Rattle.ra_model.specs.Assignments.{machine_at, tally}
use Rattle.ra_model.specs.Usage.{use_of}
use Rattle.ra_model.specs.Services.{moved_of}

-- max(0, U(m, r) - SC(m, r))
unfoldable pub excess_on : Tables → List Machine → ℕ → ℕ → ℕ
excess_on i a r m = use_of i a m r - safety_of i m r

-- loadWeight(r) times the sum over m of max(0, U(m, r) - SC(m, r))
unfoldable pub load_part : Tables → List Machine → ℕ → ℕ
load_part i a r = load_weight_of i r * total (machine_count i) (excess_on i a r)

-- the load cost: the sum over r
unfoldable pub load_cost : Tables → List Machine → ℕ
load_cost i a = total (resource_count i) (load_part i a)

-- A(m, r), the available amount: C(m, r) - U(m, r)
unfoldable pub available : Tables → List Machine → ℕ → ℕ → ℕ
available i a m r = capacity_of i m r - use_of i a m r

-- max(0, target * A(m, r1) - A(m, r2)) of balance objective b
unfoldable pub shortfall : Tables → List Machine → ℕ → ℕ → ℕ
shortfall i a b m = target_of i b * available i a m (first_of i b) - available i a m (second_of i b)

-- the weight of objective b times the sum over m
unfoldable pub balance_part : Tables → List Machine → ℕ → ℕ
balance_part i a b = balance_weight_of i b * total (machine_count i) (shortfall i a b)

-- the balance cost: the sum over the objectives
unfoldable pub balance_cost : Tables → List Machine → ℕ
balance_cost i a = total (balance_count i) (balance_part i a)

-- PMC(p) if process p, which is on machine `at`, isn't on its initial machine
unfoldable pub process_share : Tables → List Machine → ℕ → ℕ → ℕ
process_share i a0 p at = if at == machine_at a0 p then 0 else process_cost_of i p

-- the process cost: processMoveWeight times the sum of PMC(p) over the p with A(p) != A0(p)
unfoldable pub process_cost : Tables → List Machine → List Machine → ℕ
process_cost i a0 a = process_weight_of i * tally (process_count i) (process_share i a0) a

-- the service cost: serviceMoveWeight times the greatest number, over services, of moved processes
unfoldable pub service_cost : Tables → List Machine → List Machine → ℕ
service_cost i a0 a = service_weight_of i * greatest (service_count i) (moved_of i a0 a)

-- MMC(A0(p), at)
unfoldable pub way_share : Tables → List Machine → ℕ → ℕ → ℕ
way_share i a0 p at = way_cost_of i (machine_at a0 p) at

-- the machine cost: machineMoveWeight times the sum over p of MMC(A0(p), A(p))
unfoldable pub machine_cost : Tables → List Machine → List Machine → ℕ
machine_cost i a0 a = machine_weight_of i * tally (process_count i) (way_share i a0) a

-- the objective: the sum of the five parts
unfoldable pub objective : Tables → List Machine → List Machine → ℕ
objective i a0 a =
    load_cost i a + balance_cost i a + process_cost i a0 a + service_cost i a0 a + machine_cost i a0
    a

-- the five parts with their total
unfoldable pub parts_of : Tables → List Machine → List Machine → Parts
parts_of i a0 a =
    record {
      load = load_cost i a;
      balance = balance_cost i a;
      process = process_cost i a0 a;
      service = service_cost i a0 a;
      machine = machine_cost i a0 a;
      total = objective i a0 a;
    }
