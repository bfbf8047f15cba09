-- Two instances with the same lists, whatever room the lists have.
use Rattle.std.specs.Prelude.{◌≡◌, ℕ, ◌<◌}
use Rattle.ra_model.specs.declared.raw.RawInstance.{RawInstance}
use Rattle.ra_model.specs.declared.raw.Tables.{Tables}
use Rattle.ra_model.specs.Numbers.{machine_count, closed_at}

-- x has the lists and the weights of y
pub record HasLists (x y : RawInstance) : Type 0 where
  pub resources : x.resources.items ≡ y.resources.items
  pub machines : x.machines.items ≡ y.machines.items
  pub capacities : x.capacities.items ≡ y.capacities.items
  pub safeties : x.safeties.items ≡ y.safeties.items
  pub move_costs : x.move_costs.items ≡ y.move_costs.items
  pub services : x.services.items ≡ y.services.items
  pub dependencies : x.dependencies.items ≡ y.dependencies.items
  pub processes : x.processes.items ≡ y.processes.items
  pub requirements : x.requirements.items ≡ y.requirements.items
  pub balances : x.balances.items ≡ y.balances.items
  pub process_weight : x.process_weight ≡ y.process_weight
  pub service_weight : x.service_weight ≡ y.service_weight
  pub machine_weight : x.machine_weight ≡ y.machine_weight

-- x has the lists of y, and the same machines are closed
pub record AreSameLists (i j : Tables) : Type 0 where
  pub lists : HasLists j.raw i.raw
  pub closed : (m : ℕ) → m < machine_count i → closed_at j m ≡ closed_at i m
