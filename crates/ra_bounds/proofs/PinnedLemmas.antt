-- No assignment that is feasible with respect to the start costs less than the bound that counts the pinned processes.
use Rattle.std.proofs.Common.{◌≡◌, ℕ, ◌+◌, ◌-◌, ◌*◌, ◌^◌, ◌<◌, ◌≤◌, max, List, refl, sym, ap, ◌∙◌, arith}
use Rattle.std.proofs.Common.{mul-le-mul_left}
use Rattle.ra_base.specs.Sums.{total}
use Rattle.ra_base.specs.declared.ids.Machine.{Machine}
use Rattle.ra_base.proofs.Sums.{total_none, total_more, total_le}
use Rattle.ra_model.specs.declared.raw.Tables.{Tables}
use Rattle.ra_model.specs.Limits.{WellFormed, Small}
use Rattle.ra_model.specs.Numbers.{resource_count, machine_count, load_weight_of, safety_of}
use Rattle.ra_model.specs.Assignments.{IsAssignment}
use Rattle.ra_model.specs.Usage.{use_of}
use Rattle.ra_model.specs.Feasible.{Feasible}
use Rattle.ra_model.specs.Costs.{excess_on, load_part, load_cost, objective}
use Rattle.ra_model.proofs.BoundLemmas.{use_under}
use Rattle.ra_pins.specs.Pinned.{is_pinned, pinned_load}
use Rattle.ra_pins.specs.PinLists.{PinLists}
use Rattle.ra_pins.specs.Pins.{ArePins, ArePinsOf}
use Rattle.ra_pins.proofs.StayLemmas.{flagged_below, pinned_agree}
use Rattle.ra_bounds.specs.Bounds.{overload, load_bound, balance_bound, bound_of}
use Rattle.ra_bounds.specs.PinnedBounds.{pinned_excess, pinned_overload, pinned_load_bound, pinned_bound_of}
use Rattle.ra_bounds.specs.declared.costs.Bound.{Bound}
use Rattle.ra_bounds.specs.Laws.{NoneCostsLessPinned, PinnedIsAtLeast}
use Rattle.ra_bounds.proofs.CostLemmas.{overload_below, balance_below}

-- the greater of two
max_left : (a b : ℕ) → a ≤ max a b
max_left a b = omega arith

max_within : (a b c : ℕ) → a ≤ c → b ≤ c → max a b ≤ c
max_within a b c a_in b_in = omega arith

module _ (i : Tables) (a0 : List Machine) where
  module _ (a : List Machine) where
    -- the pinned processes are a part of what is used in each feasible assignment, and at the start
    pub pinned_part : (m r : ℕ) → IsAssignment i a → Feasible i a0 a → pinned_load i a0 m r ≤ use_of i a m r
    unfolding pinned_load
    pinned_part m r fits feasible = flagged_below i a0 a (is_pinned i a0) m r (pinned_agree i a0 a fits feasible)

    module _ (r : ℕ) (fits : IsAssignment i a) (feasible : Feasible i a0 a) where
      excess_below : total (machine_count i) (pinned_excess i a0 r) ≤ total (machine_count i) (excess_on i a r)
      unfolding pinned_excess excess_on
      excess_below = total_le (machine_count i) (λ m. pinned_load i a0 m r - safety_of i m r)
          (λ m. use_of i a m r - safety_of i m r) (λ m h. omega (arith, pinned_part m r fits feasible))

      pinned_overload_below : pinned_overload i a0 r ≤ total (machine_count i) (excess_on i a r)
      unfolding pinned_overload
      pinned_overload_below =
          max_within (overload i r) (total (machine_count i) (pinned_excess i a0 r))
          (total (machine_count i) (excess_on i a r)) (overload_below i a r fits) (excess_below)

    pub pinned_load_below : IsAssignment i a → Feasible i a0 a → pinned_load_bound i a0 ≤ load_cost i a
    unfolding pinned_load_bound load_cost load_part
    pinned_load_below fits feasible = total_le (resource_count i) (λ r. load_weight_of i r * pinned_overload i a0 r)
        (λ r. load_weight_of i r * total (machine_count i) (excess_on i a r))
        (λ r within. mul-le-mul_left (load_weight_of i r) (pinned_overload_below r fits feasible))

  pub pinned_small : (m r : ℕ) → WellFormed i → Small i → pinned_load i a0 m r < 2 ^ 48
  unfolding pinned_load
  pinned_small m r formed small =
      omega (
        arith,
        flagged_below i a0 a0 (is_pinned i a0) m r (record { each = λ z h e. refl }),
        use_under i a0 m r formed small,
      )

  overload_at_least : (r : ℕ) → overload i r ≤ pinned_overload i a0 r
  unfolding pinned_overload
  overload_at_least r = max_left (overload i r) (total (machine_count i) (pinned_excess i a0 r))

  load_at_least : load_bound i ≤ pinned_load_bound i a0
  unfolding load_bound pinned_load_bound
  load_at_least = total_le (resource_count i) (λ r. load_weight_of i r * overload i r)
      (λ r. load_weight_of i r * pinned_overload i a0 r)
      (λ r within. mul-le-mul_left (load_weight_of i r) (overload_at_least r))

  pub overload_is : (r together pinned : ℕ) → together ≡ overload i r →
      pinned ≡ total (machine_count i) (pinned_excess i a0 r) → max together pinned ≡ pinned_overload i a0 r
  unfolding pinned_overload
  overload_is r together pinned together_is pinned_is = rw (together_is, pinned_is) refl

  pub load_none : 0 ≡ total 0 (λ r. load_weight_of i r * pinned_overload i a0 r)
  load_none = sym (total_none (λ r. load_weight_of i r * pinned_overload i a0 r))

  pub load_more : (n cost share : ℕ) → cost ≡ total n (λ r. load_weight_of i r * pinned_overload i a0 r) →
      share ≡ load_weight_of i n * pinned_overload i a0 n →
      cost + share ≡ total (n + 1) (λ r. load_weight_of i r * pinned_overload i a0 r)
  load_more n cost share so_far here =
      omega (arith, so_far, here, total_more n (λ r. load_weight_of i r * pinned_overload i a0 r))

  pub load_all : (n cost : ℕ) → n ≡ resource_count i →
      cost ≡ total n (λ r. load_weight_of i r * pinned_overload i a0 r) → cost ≡ pinned_load_bound i a0
  unfolding pinned_load_bound
  load_all n cost all so_far = so_far ∙ ap (λ k. total k (λ r. load_weight_of i r * pinned_overload i a0 r)) all

  pub bound_made : (load balance : ℕ) → load ≡ pinned_load_bound i a0 → balance ≡ balance_bound i → (let made : Bound =
      record { load = load; balance = balance; total = load + balance } in made) ≡ pinned_bound_of i a0
  unfolding pinned_bound_of
  bound_made load balance load_is balance_is = rw (load_is, balance_is) refl

pub none_costs_less_pinned : NoneCostsLessPinned
unfolding pinned_bound_of objective
none_costs_less_pinned i a0 a limits fits feasible =
    let load = pinned_load_below i a0 a fits feasible in
    let balance = balance_below i a0 a limits fits feasible in
    record { load = load; balance = balance; total = omega arith }

pub pinned_is_at_least : PinnedIsAtLeast
unfolding bound_of pinned_bound_of
pinned_is_at_least i a0 = omega (arith, load_at_least i a0)

-- what a program reads
pub excess_fits : (pins : PinLists) (i : Tables) (load excess m r : ℕ) → WellFormed i → Small i → ArePinsOf pins i →
    ((a0 : List Machine) → ArePins pins i a0 → load ≡ pinned_load i a0 m r) → excess ≤ load → excess < 2 ^ 48
excess_fits pins i load excess m r formed small of is few =
    omega (arith, is of.a0 of.stand, pinned_small i of.a0 m r formed small, few)
