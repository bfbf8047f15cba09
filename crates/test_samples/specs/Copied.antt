-- How the lists that were made relate to the slices that they were made of.
use Rattle.std.specs.Prelude.{◌≡◌, slice_index}
use Rattle.ra_model.specs.declared.raw.RawInstance.{RawInstance}
use Rattle.test_samples.specs.declared.lists.Lists.{Lists}
use Rattle.test_samples.specs.declared.lists.MachineLists.{MachineLists}
use Rattle.test_samples.specs.declared.lists.ProcessLists.{ProcessLists}

-- each list and each weight is that of the slices
unfoldable pub IsCopy : RawInstance → Lists → Type 0
IsCopy raw lists =
    (raw.resources.items ≡ lists.resources.now) × (raw.machines.items ≡ lists.machines.now)
    × (raw.capacities.items ≡ lists.capacities.now) × (raw.safeties.items ≡ lists.safeties.now)
    × (raw.move_costs.items ≡ lists.move_costs.now) × (raw.services.items ≡ lists.services.now)
    × (raw.dependencies.items ≡ lists.dependencies.now)
    × (raw.processes.items ≡ lists.processes.now)
    × (raw.requirements.items ≡ lists.requirements.now) × (raw.balances.items ≡ lists.balances.now)
    × (raw.process_weight ≡ slice_index lists.weights 0)
    × (raw.service_weight ≡ slice_index lists.weights 1)
    × (raw.machine_weight ≡ slice_index lists.weights 2)

-- each list of the machines is that of the slices
pub record AreMachines (made : MachineLists) (lists : Lists) : Type 0 where
  pub resources : made.resources.items ≡ lists.resources.now
  pub machines : made.machines.items ≡ lists.machines.now
  pub capacities : made.capacities.items ≡ lists.capacities.now
  pub safeties : made.safeties.items ≡ lists.safeties.now
  pub move_costs : made.move_costs.items ≡ lists.move_costs.now

-- each list of the processes is that of the slices
pub record AreProcesses (made : ProcessLists) (lists : Lists) : Type 0 where
  pub services : made.services.items ≡ lists.services.now
  pub dependencies : made.dependencies.items ≡ lists.dependencies.now
  pub processes : made.processes.items ≡ lists.processes.now
  pub requirements : made.requirements.items ≡ lists.requirements.now
  pub balances : made.balances.items ≡ lists.balances.now
