-- The constraints of the challenge's problem definition, and this project's closed machines.
use Rattle.std.specs.Prelude.{◌≡◌, ◌≢◌, ℕ, ◌<◌, ◌≤◌, List, IsTrue}
use Rattle.ra_base.specs.declared.ids.Machine.{Machine}
use Rattle.ra_model.specs.declared.raw.Tables.{Tables}
use Rattle.ra_model.specs.Numbers.{resource_count, machine_count, service_count, process_count, transient_at}
use Rattle.ra_model.specs.Numbers.{capacity_of, spread_of, dependency_count, need_of, service_of, neighbourhood_of}
use Rattle.ra_model.specs.Numbers.{closed_at}
use Rattle.ra_model.specs.Assignments.{machine_at}
use Rattle.ra_model.specs.Usage.{use_of, transient_of}
use Rattle.ra_model.specs.Services.{locations_of}

-- some process of service s has a machine in the neighbourhood with this label
abbrev pub HasNear : Tables → List Machine → ℕ → ℕ → Type 0
HasNear i a s label =
    (q : ℕ) × (q < process_count i) × (service_of i q ≡ s)
    × (neighbourhood_of i (machine_at a q) ≡ label)

-- assignment a, reached from a0, meets all constraints
pub record Feasible (i : Tables) (a0 a : List Machine) : Type 0 where
  -- for each machine and resource the use is at most the capacity
  pub capacity : (m r : ℕ) → m < machine_count i → r < resource_count i
      → use_of i a m r ≤ capacity_of i m r
  -- for each machine and transient resource the transient use is at most the capacity
  pub transient : (m r : ℕ) → m < machine_count i → r < resource_count i → IsTrue (transient_at i r)
      → transient_of i a0 a m r ≤ capacity_of i m r
  -- two different processes of one service never have the same machine
  pub conflict : (p q : ℕ) → p < process_count i → q < process_count i → p ≢ q
      → service_of i p ≡ service_of i q → machine_at a p ≢ machine_at a q
  -- for each service the number of different locations that hold a process of it is at least its spread
  pub spread : (s : ℕ) → s < service_count i → spread_of i s ≤ locations_of i a s
  -- for each service, each service on which it depends, and each process of the first: that process has a machine in
  -- whose neighbourhood some process of the second has a machine
  pub dependency : (s k p : ℕ) → s < service_count i → k < dependency_count i s
      → p < process_count i → service_of i p ≡ s
      → HasNear i a (need_of i s k) (neighbourhood_of i (machine_at a p))
  -- each process whose machine is closed is on its initial machine
  pub closed : (p : ℕ) → p < process_count i → IsTrue (closed_at i (machine_at a p))
      → machine_at a0 p ≡ machine_at a p
