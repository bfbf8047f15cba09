-- The numbers of a trial's instance, each by the name that an instance gives it.
use Rattle.std.specs.Prelude.{◌≡◌, ℕ, ◌+◌, ◌/◌, ◌%◌, ◌<◌, ◌==◌, if◌then◌else◌, false}
use Rattle.ra_model.specs.declared.raw.Tables.{Tables}
use Rattle.ra_model.specs.Numbers as model
use Rattle.ra_trial.specs.Numbers.{trial_requirement_of, trial_process_cost_of, trial_capacity_of, trial_safety_of}
use Rattle.ra_trial.specs.Numbers.{trial_way_cost_of, trial_spread_of}

pub record HasNumbers (g : ℕ → ℕ) (i : Tables) : Type 0 where
  pub resources : model.resource_count i ≡ 4
  pub machines : model.machine_count i ≡ 100
  pub services : model.service_count i ≡ 250
  pub processes : model.process_count i ≡ 1000
  pub balances : model.balance_count i ≡ 1
  -- only resource 0 is transient
  pub transient : (r : ℕ) → r < 4 → model.transient_at i r ≡ (r == 0)
  pub load_weight : (r : ℕ) → r < 4 → model.load_weight_of i r ≡ 10
  -- 20 machines have one neighbourhood, and 10 one location
  pub neighbourhood : (m : ℕ) → m < 100 → model.neighbourhood_of i m ≡ m / 20
  pub location : (m : ℕ) → m < 100 → model.location_of i m ≡ m % 10
  pub capacity : (m r : ℕ) → m < 100 → r < 4 → model.capacity_of i m r ≡ trial_capacity_of g m r
  pub safety : (m r : ℕ) → m < 100 → r < 4 → model.safety_of i m r ≡ trial_safety_of g m r
  pub move_cost : (a b : ℕ) → a < 100 → b < 100 → model.way_cost_of i a b ≡ trial_way_cost_of a b
  pub spread : (s : ℕ) → s < 250 → model.spread_of i s ≡ trial_spread_of g s
  -- each fifth service depends on one other, the service 25 numbers on
  pub dependencies : (s : ℕ) → s < 250 → model.dependency_count i s ≡ (if s % 5 == 0 then 1 else 0)
  pub need : (s k : ℕ) → s < 250 → k < model.dependency_count i s
      → model.need_of i s k ≡ (s + 25) % 250
  -- four processes have one service
  pub service : (p : ℕ) → p < 1000 → model.service_of i p ≡ p / 4
  pub requirement : (p r : ℕ) → p < 1000 → r < 4 → model.requirement_of i p r ≡ trial_requirement_of g p r
  pub process_cost : (p : ℕ) → p < 1000 → model.process_cost_of i p ≡ trial_process_cost_of g p
  pub first : model.first_of i 0 ≡ 0
  pub second : model.second_of i 0 ≡ 1
  pub target : model.target_of i 0 ≡ 2
  pub balance_weight : model.balance_weight_of i 0 ≡ 10
  pub process_weight : model.process_weight_of i ≡ 1
  pub service_weight : model.service_weight_of i ≡ 10
  pub machine_weight : model.machine_weight_of i ≡ 100
  pub open_to_all : (m : ℕ) → model.closed_at i m ≡ false
