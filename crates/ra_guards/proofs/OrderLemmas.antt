-- Guards and their numbers.
use Rattle.std.proofs.Common.{inl, inr, ◌≡◌, ℕ, ◌+◌, ◌-◌, ◌<◌, ◌≤◌, true, List, length, ap, arith, lt-ltb}
use Rattle.std.proofs.Common.{le-ltb}
use Rattle.std.proofs.lemmas.Bool.{cases_lt}
use Rattle.ra_base.specs.declared.ids.Guard.{Guard}
use Rattle.ra_base.specs.declared.ids.Guard.TheVariants as guard
use Rattle.ra_base.specs.declared.ids.Service.{Service}
use Rattle.ra_model.specs.declared.raw.Tables.{Tables}
use Rattle.ra_model.specs.Numbers.{machine_count, service_count}
use Rattle.ra_moves.specs.declared.steps.Step.{Step}
use Rattle.ra_moves.specs.Steps.{step_at, from_in, to_in}
use Rattle.ra_guards.specs.Guards.{AreWithin}
use Rattle.ra_guards.specs.Order.{IsKnown, number_in, guard_of, is_before}
use Rattle.ra_guards.specs.VersionTable.{VersionTable}
use Rattle.ra_guards.specs.Kept.{HasGuard, IsTableOf}

-- the guards of machine n and of service n

abbrev pub of_machine : ℕ → Guard
of_machine n = guard.Machine (record { 0 = n })

abbrev pub of_service : ℕ → Guard
of_service n = guard.Service (record { 0 = n })

service_same : (s t : ℕ) → s ≡ t → of_service s ≡ of_service t
service_same s t same = ap (λ (n : ℕ). of_service n) same

-- a table of an instance has each of its guards
pub has_known : (i : Tables) (v : VersionTable) (g : Guard) → IsTableOf i v → IsKnown i g → HasGuard v g
unfolding IsKnown HasGuard
has_known i v (guard.Machine m) sized known = omega (arith, known, sized.machines)
has_known i v (guard.Service s) sized known = omega (arith, known, sized.services)

module _ (machines : ℕ) where
  pub guard_below : (n : ℕ) → n < machines → guard_of machines n ≡ guard.Machine (record { 0 = n })
  unfolding guard_of
  guard_below n below = grind (arith, lt-ltb)

  pub guard_above : (n : ℕ) → machines ≤ n → guard_of machines n ≡ guard.Service (record { 0 = n - machines })
  unfolding guard_of
  guard_above n above = grind (arith, le-ltb)

  -- the guard of a service's number
  pub guard_service : (s : ℕ) → guard_of machines (machines + s) ≡ of_service s
  guard_service s = grind (arith, guard_above, service_same)

  -- less numbers are those of earlier guards
  pub before_number : (m n : ℕ) → m < n → is_before (guard_of machines m) (guard_of machines n) ≡ true
  unfolding is_before
  before_number m n less = grind (arith, guard_below, lt-ltb, guard_above)

module _ (i : Tables) where
  -- a guard of the instance is that of its number
  pub guard_number : (g : Guard) → IsKnown i g → guard_of (machine_count i) (number_in (machine_count i) g) ≡
      g
  unfolding IsKnown number_in
  guard_number (guard.Machine m) known = guard_below _ m.0 known
  guard_number (guard.Service s) known = guard_service _ s.0

  -- the guard of a number below the count of all is one of the instance
  pub known_number : (n : ℕ) → n < machine_count i + service_count i → IsKnown i (guard_of (machine_count i) n)
  unfolding IsKnown
  known_number n within = elim (cases_lt n (machine_count i)) [
    | inl below ↦ rw (guard_below (machine_count i) n below) below
    | inr above ↦ rw (guard_above (machine_count i) n above) (omega arith)
  ]

  pub has_guard : (v : VersionTable) (g : Guard) (n m : ℕ) → IsTableOf i v → m ≡ machine_count i →
      n < machine_count i + service_count i → g ≡ guard_of m n → HasGuard v g
  has_guard v g n m sized count within is = has_known i v g sized (rw (is, count) (known_number n within))

  module _ (steps : List Step) (j : ℕ) (s : Step) (v : VersionTable) (within : AreWithin i steps)
      (there : j < length steps) (sized : IsTableOf i v) (is : s ≡ step_at steps j) where
    -- the guards of a step of a move within the instance
    pub from_has : HasGuard v (guard.Machine s.from)
    unfolding HasGuard from_in
    from_has =
        let known : s.from.0 < machine_count i = rw is (within.from j there) in omega (arith, sized.machines)

    pub to_has : HasGuard v (guard.Machine s.to)
    unfolding HasGuard to_in
    to_has =
        let known : s.to.0 < machine_count i = rw is (within.to j there) in omega (arith, sized.machines)

  pub service_has : (s : Service) (v : VersionTable) → s.0 < service_count i → IsTableOf i v →
      HasGuard v (guard.Service s)
  unfolding HasGuard
  service_has s v known sized = omega (arith, sized.services)
