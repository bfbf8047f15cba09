-- A row of a model file is its numbers, and so are its lists, but for the room that was reserved for them.
use Rattle.std.proofs.Common.{◌≡◌, ℕ, ◌<◌, ◌^◌, Bool, List, [], ◌∷◌, map, refl, sym, ◌∙◌, ap, subst}
use Rattle.std.proofs.Props.{props}
use Rattle.ra_base.specs.Listed.{Listed}
use Rattle.ra_base.specs.declared.ids.Resource.{Resource}
use Rattle.ra_base.specs.declared.ids.Service.{Service}
use Rattle.ra_model.specs.declared.raw.BalanceRow.{BalanceRow}
use Rattle.ra_model.specs.declared.raw.MachineRow.{MachineRow}
use Rattle.ra_model.specs.declared.raw.ProcessRow.{ProcessRow}
use Rattle.ra_model.specs.declared.raw.RawInstance.{RawInstance}
use Rattle.ra_model.specs.declared.raw.ResourceRow.{ResourceRow}
use Rattle.ra_model.specs.declared.raw.ServiceRow.{ServiceRow}
use Rattle.ra_model_read.specs.Lists.{ResourceNumbers, ProcessNumbers, BalanceNumbers, Lists, of_resource, of_machine, service_numbers_of, of_process, of_balance, lists_of}

-- a number of the model file
abbrev pub Word : Type 0
Word = (w : ℕ) × (w < 2 ^ 32)

-- a list without its room
abbrev pub plain : {T : Type 0} → List T → Listed T
plain items = record { items = items; room = 0 }

-- the lists of a model file, without their rooms
unfoldable pub raw_of : List ResourceRow → List MachineRow → List ℕ → List ℕ → List ℕ → List ServiceRow → List Service →
    List ProcessRow → List ℕ → List BalanceRow → Word → Word → Word → RawInstance
raw_of resources machines capacities safeties move_costs services dependencies processes requirements balances process
    service machine = record {
      resources = plain resources;
      machines = plain machines;
      capacities = plain capacities;
      safeties = plain safeties;
      move_costs = plain move_costs;
      services = plain services;
      dependencies = plain dependencies;
      processes = plain processes;
      requirements = plain requirements;
      balances = plain balances;
      process_weight = process.0;
      service_weight = service.0;
      machine_weight = machine.0;
      small_process_weight = process.1;
      small_service_weight = service.1;
      small_machine_weight = machine.1;
    }

unfoldable pub bare_raw : RawInstance → RawInstance
bare_raw raw = raw_of raw.resources.items raw.machines.items raw.capacities.items raw.safeties.items
    raw.move_costs.items raw.services.items raw.dependencies.items raw.processes.items raw.requirements.items
    raw.balances.items
    (raw.process_weight, raw.small_process_weight) (raw.service_weight, raw.small_service_weight)
    (raw.machine_weight, raw.small_machine_weight)

-- a row is its numbers

word_same : (x y : Word) → x.0 ≡ y.0 → x ≡ y
word_same x y e = subst (λ v. (small : v < 2 ^ 32) → x ≡ (v, small)) e
    (λ small. let same : IsProp (x.0 < 2 ^ 32) = hlevel props in rw (same x.1 small))
    y.1

resource_of : Bool → Word → ResourceRow
resource_of transient weight = record { transient = transient; load_weight = weight.0; small = weight.1 }

resource_is : (x : ResourceRow) → x ≡ resource_of x.transient (x.load_weight, x.small)
unfolding resource_of
resource_is x = refl

resource_same : (x y : ResourceRow) → of_resource x ≡ of_resource y → x ≡ y
resource_same x y e = resource_is x
    ∙ rw (
      ap (λ (n : ResourceNumbers). n.transient) e,
      word_same (x.load_weight, x.small) (y.load_weight, y.small)
          (ap (λ (n : ResourceNumbers). n.load_weight) e),
    ) refl ∙ sym (resource_is y)

machine_of : Word → Word → MachineRow
machine_of neighbourhood location = record {
  neighbourhood = neighbourhood.0;
  location = location.0;
  small_neighbourhood = neighbourhood.1;
  small_location = location.1;
}

machine_is : (x : MachineRow) → x ≡ machine_of (x.neighbourhood, x.small_neighbourhood) (x.location, x.small_location)
unfolding machine_of
machine_is x = refl

machine_same : (x y : MachineRow) → of_machine x ≡ of_machine y → x ≡ y
machine_same x y e = machine_is x
    ∙ rw (
      word_same (x.neighbourhood, x.small_neighbourhood) (y.neighbourhood, y.small_neighbourhood)
          (ap (λ n. n.neighbourhood) e),
      word_same (x.location, x.small_location) (y.location, y.small_location)
          (ap (λ n. n.location) e),
    ) refl ∙ sym (machine_is y)

service_of : Word → Word → ServiceRow
service_of spread end = record {
  spread_min = spread.0;
  dependency_end = end.0;
  small_spread = spread.1;
  small_end = end.1;
}

service_is : (x : ServiceRow) → x ≡ service_of (x.spread_min, x.small_spread) (x.dependency_end, x.small_end)
unfolding service_of
service_is x = refl

service_same : (x y : ServiceRow) → service_numbers_of x ≡ service_numbers_of y → x ≡ y
service_same x y e = service_is x
    ∙ rw (
      word_same (x.spread_min, x.small_spread) (y.spread_min, y.small_spread)
          (ap (λ n. n.spread_min) e),
      word_same (x.dependency_end, x.small_end)
          (y.dependency_end, y.small_end) (ap (λ n. n.dependency_end) e),
    ) refl ∙ sym (service_is y)

process_of : Service → Word → ProcessRow
process_of service cost = record { service = service; move_cost = cost.0; small = cost.1 }

process_is : (x : ProcessRow) → x ≡ process_of x.service (x.move_cost, x.small)
unfolding process_of
process_is x = refl

process_same : (x y : ProcessRow) → of_process x ≡ of_process y → x ≡ y
process_same x y e = process_is x
    ∙ rw (
      ap (λ (n : ProcessNumbers). n.service) e,
      word_same (x.move_cost, x.small) (y.move_cost, y.small)
          (ap (λ (n : ProcessNumbers). n.move_cost) e),
    ) refl ∙ sym (process_is y)

balance_of : Resource → Resource → Word → Word → BalanceRow
balance_of first second target weight = record {
  first = first;
  second = second;
  target = target.0;
  weight = weight.0;
  small_target = target.1;
  small_weight = weight.1;
}

balance_is : (x : BalanceRow) → x ≡ balance_of x.first x.second (x.target, x.small_target) (x.weight, x.small_weight)
unfolding balance_of
balance_is x = refl

balance_same : (x y : BalanceRow) → of_balance x ≡ of_balance y → x ≡ y
balance_same x y e = balance_is x
    ∙ rw (
      ap (λ (n : BalanceNumbers). n.first) e,
      ap (λ (n : BalanceNumbers). n.second) e,
      word_same (x.target, x.small_target) (y.target, y.small_target) (ap (λ (n : BalanceNumbers). n.target) e),
      word_same (x.weight, x.small_weight) (y.weight, y.small_weight) (ap (λ (n : BalanceNumbers). n.weight) e),
    ) refl
    ∙ sym (balance_is y)

-- lists with the same numbers in their rows are the same
map_same : {A B : Type 0} (f : A → B) → ((x y : A) → f x ≡ f y → x ≡ y) → (xs ys : List A) → map f xs ≡ map f ys →
    xs ≡ ys
map_same f one [] [] e = refl
map_same f one [] (y ∷ ys) e = cc
map_same f one (x ∷ xs) [] e = cc
map_same f one (x ∷ xs) (y ∷ ys) e =
    let head : f x ≡ f y = cc in
    let tail : map f xs ≡ map f ys = cc in
    rw (one x y head, map_same f one xs ys tail) refl

-- lists of a model file with the same numbers are the same, but for their rooms
pub raw_same : (x y : RawInstance) → lists_of x ≡ lists_of y → bare_raw x ≡ bare_raw y
unfolding bare_raw
raw_same x y e = rw (
  map_same of_resource resource_same x.resources.items y.resources.items (ap (λ (l : Lists). l.resources) e),
  map_same of_machine machine_same x.machines.items y.machines.items (ap (λ (l : Lists). l.machines.rows) e),
  ap (λ (l : Lists). l.machines.capacities) e,
  ap (λ (l : Lists). l.machines.safeties) e,
  ap (λ (l : Lists). l.machines.move_costs) e,
  map_same service_numbers_of service_same x.services.items y.services.items (ap (λ (l : Lists). l.services.rows) e),
  ap (λ (l : Lists). l.services.dependencies) e,
  map_same of_process process_same x.processes.items y.processes.items (ap (λ (l : Lists). l.processes.rows) e),
  ap (λ (l : Lists). l.processes.requirements) e,
  map_same of_balance balance_same x.balances.items y.balances.items (ap (λ (l : Lists). l.balances) e),
  word_same (x.process_weight, x.small_process_weight) (y.process_weight, y.small_process_weight)
      (ap (λ (l : Lists). l.weights.process) e),
  word_same (x.service_weight, x.small_service_weight) (y.service_weight, y.small_service_weight)
      (ap (λ (l : Lists). l.weights.service) e),
  word_same (x.machine_weight, x.small_machine_weight) (y.machine_weight, y.small_machine_weight)
      (ap (λ (l : Lists). l.weights.machine) e),
) refl
