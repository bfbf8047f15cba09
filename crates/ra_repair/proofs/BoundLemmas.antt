-- How large a penalty can be.
use Rattle.std.proofs.Common.{ℕ, ◌-◌, ◌*◌, ◌^◌, ◌<◌, ◌≤◌, Bool, true, false, cond, eqb, ◌&&◌, not, List, arith}
use Rattle.ra_base.specs.Sums.{one_if}
use Rattle.ra_base.specs.declared.ids.Machine.{Machine}
use Rattle.ra_base.proofs.Sums.{total_within}
use Rattle.ra_base.proofs.Counts.{one_if_le}
use Rattle.ra_model.specs.declared.raw.Tables.{Tables}
use Rattle.ra_model.specs.Numbers.{resource_count, service_count}
use Rattle.ra_model.specs.Numbers.{transient_at, capacity_of, closed_at}
use Rattle.ra_model.specs.Limits.{WellFormed, Small}
use Rattle.ra_model.specs.Assignments.{machine_at, tally}
use Rattle.ra_model.specs.Usage.{use_of, transient_of}
use Rattle.ra_model.specs.Services.{is_of}
use Rattle.ra_model.specs.Broken.{near_of}
use Rattle.ra_model.proofs.BoundLemmas.{use_under, transient_under, on_machine_within}
use Rattle.ra_repair.specs.Penalty.{use_above, row_above, capacity_penalty, transient_above, row_transient_above}
use Rattle.ra_repair.specs.Penalty.{transient_penalty, crowd_on, service_crowd, conflict_penalty, spread_lack}
use Rattle.ra_repair.specs.Penalty.{spread_penalty, far_share, pair_far, service_far, dependency_penalty, closed_share}
use Rattle.ra_repair.specs.Penalty.{closed_penalty, penalty}
use Rattle.ra_repair.proofs.ReadLemmas.{dependency_few}

pub row_few : (i : Tables) (a : List Machine) (m : ℕ) → WellFormed i → Small i → row_above i a m ≤ 20 * 2 ^ 48
unfolding row_above use_above
row_few i a m limits small = total_within (resource_count i) 20 (2 ^ 48) (λ r. use_of i a m r - capacity_of i m r)
    limits.few_resources (λ r h. omega (arith, use_under i a m r limits small))

choice_few : (t : Bool) (x b : ℕ) → x ≤ b → cond t x 0 ≤ b
choice_few true x b few = few
choice_few false x b few = omega arith

module _ (i : Tables) (a : List Machine) where
  module _ (s : ℕ) where
    crowd_few : (m : ℕ) → WellFormed i → crowd_on i a s m ≤ 50000
    unfolding crowd_on
    crowd_few m limits = omega (arith, on_machine_within, limits.few_processes)

    service_crowd_few : WellFormed i → service_crowd i a s ≤ 5000 * 50000
    unfolding service_crowd
    service_crowd_few limits =
        total_within _ 5000 50000 _ limits.few_machines (λ m h. crowd_few m limits)

    pair_far_few : (k : ℕ) → WellFormed i → pair_far i a s k ≤ 50000 * 1
    unfolding pair_far far_share
    pair_far_few k limits =
        total_within _ 50000 1
        (λ p. one_if (is_of i s p && eqb (near_of i a s k p) 0)) limits.few_processes
        (λ p h. one_if_le _)

    service_far_few : WellFormed i → s < service_count i → service_far i a s ≤ 100000 * (50000 * 1)
    unfolding service_far
    service_far_few limits there = total_within _ 100000 _ _
        (dependency_few i s limits there) (λ k h. pair_far_few k limits)

  module _ (limits : WellFormed i) where
    capacity_few : Small i → capacity_penalty i a ≤ 5000 * (20 * 2 ^ 48)
    unfolding capacity_penalty
    capacity_few small = total_within _ 5000 _ _ limits.few_machines
        (λ m h. row_few i a m limits small)

    conflict_few : conflict_penalty i a ≤ 50000 * (5000 * 50000)
    unfolding conflict_penalty
    conflict_few = total_within _ 50000 _ _ limits.few_services
        (λ s h. service_crowd_few s limits)

    spread_few : Small i → spread_penalty i a ≤ 50000 * 2 ^ 32
    unfolding spread_penalty spread_lack
    spread_few small =
        total_within (service_count i) 50000 (2 ^ 32) _ limits.few_services (λ s h. omega (arith, small.spreads s))

    dependency_penalty_few : dependency_penalty i a ≤ 50000 * (100000 * (50000 * 1))
    unfolding dependency_penalty
    dependency_penalty_few = total_within _ 50000 _ _
        limits.few_services (λ s h. service_far_few s limits h)

module _ (i : Tables) (a0 : List Machine) where
  row_transient_few : (a : List Machine) (m : ℕ) → WellFormed i → Small i → row_transient_above i a0 a m ≤ 20 * 2 ^ 48
  unfolding row_transient_above transient_above
  row_transient_few a m limits small =
      total_within (resource_count i) 20 (2 ^ 48)
      (λ r. cond (transient_at i r) (transient_of i a0 a m r - capacity_of i m r) 0) limits.few_resources
      (λ r h. choice_few (transient_at i r) _ (2 ^ 48) (omega (arith, transient_under i a0 a m r limits small)))

  module _ (a : List Machine) (limits : WellFormed i) where
    transient_few : Small i → transient_penalty i a0 a ≤ 5000 * (20 * 2 ^ 48)
    unfolding transient_penalty
    transient_few small = total_within _ 5000 _ _
        limits.few_machines (λ m h. row_transient_few a m limits small)

    closed_few : closed_penalty i a0 a ≤ 50000 * 1
    unfolding closed_penalty tally closed_share
    closed_few =
        total_within _ 50000 1
        (λ p. one_if
        (closed_at i (machine_at a p) && not (eqb (machine_at a0 p) (machine_at a p)))) limits.few_processes
        (λ p h. one_if_le _)

    pub penalty_few : Small i → penalty i a0 a ≤ 2 ^ 66
    unfolding penalty
    penalty_few small =
        omega (arith, capacity_few, transient_few, conflict_few, spread_few, dependency_penalty_few, closed_few)
