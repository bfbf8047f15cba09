-- How large the sums of an instance can be, for the first k terms of each: what a program has to know to add them up.
use Rattle.std.proofs.Common.{◌≡◌, ℕ, ◌*◌, ◌^◌, ◌<◌, ◌≤◌, Bool, true, false, cond, eqb, ltb, ◌&&◌, ◌||◌, List, sym, ◌∙◌}
use Rattle.std.proofs.Common.{arith, lit<, lt_of_le_of_lt, le_of_lt, mul-lt-mul_of_pos_right}
use Rattle.std.proofs.lemmas.Bool.{cond_both, and_parts, eqb-true, ltb-true}
use Rattle.std.proofs.lemmas.Nat.{mul-lt}
use Rattle.ra_base.specs.Sums.{total, one_if, count, greatest}
use Rattle.ra_base.specs.declared.ids.Machine.{Machine}
use Rattle.ra_base.proofs.Sums.{total_bound, total_le, total_swap}
use Rattle.ra_base.proofs.Counts.{count_le, count_at_most_one}
use Rattle.ra_base.proofs.Greatest.{greatest_least}
use Rattle.ra_model.specs.declared.raw.Tables.{Tables}
use Rattle.ra_model.specs.Numbers.{resource_count, machine_count, service_count, process_count, balance_count}
use Rattle.ra_model.specs.Numbers.{load_weight_of, location_of, requirement_of, process_cost_of, first_of, target_of}
use Rattle.ra_model.specs.Numbers.{balance_weight_of, process_weight_of, service_weight_of, machine_weight_of}
use Rattle.ra_model.specs.Limits.{WellFormed, Small}
use Rattle.ra_model.specs.Assignments.{machine_at, tally}
use Rattle.ra_model.specs.Usage.{use_share, use_of, transient_share, transient_of}
use Rattle.ra_model.specs.Services.{is_of, of_service, members_at, on_machine, in_location, locations_of, moved_of}
use Rattle.ra_model.specs.Costs.{excess_on, load_part, load_cost, available, shortfall, balance_part, balance_cost}
use Rattle.ra_model.specs.Costs.{process_share, process_cost, service_cost, way_share, machine_cost, objective}
use Rattle.ra_model.specs.Laws.{AllSumsFit}

-- over plain numbers

-- fewer than m terms, each below b
pub total_under : (n m b : ℕ) (f : ℕ → ℕ) → n < m → 0 < b → ((k : ℕ) → k < n → f k < b) → total n f < m * b
total_under n m b f few some each =
    lt_of_le_of_lt (total_bound n b f (λ k h. le_of_lt (each k h))) (mul-lt-mul_of_pos_right few some)

-- a share of each process, each share below b, sums up to less than m * b
pub tally_under : (n m b : ℕ) (f : ℕ → ℕ → ℕ) (a : List Machine) → n < m → 0 < b → ((p at : ℕ) → f p at < b) →
    tally n f a < m * b
unfolding tally
tally_under n m b f a few some each =
    total_under n m b (λ p. f p (machine_at a p)) few some (λ p h. each p (machine_at a p))

-- a choice between a value and zero
pub choice_under : (t : Bool) (x b : ℕ) → 0 < b → x < b → cond t x 0 < b
choice_under true x b some below = below
choice_under false x b some below = some

pub other_under : (t : Bool) (x b : ℕ) → 0 < b → x < b → cond t 0 x < b
other_under true x b some below = some
other_under false x b some below = below

one_if_positive_le : (x : ℕ) → one_if (ltb 0 x) ≤ x
one_if_positive_le x = cond_both (ltb 0 x) 1 0 (λ y. y ≤ x) (λ some. ltb-true 0 x some) (λ none. omega arith)

-- each of the m has at most one label, so no more than m labels are taken
pub labels_within : (n m : ℕ) (test : ℕ → ℕ → Bool) → ((p k l : ℕ) → test p k ≡ true → test p l ≡ true → k ≡ l) →
    count n (λ label. ltb 0 (count m (λ p. test p label))) ≤ m
labels_within n m test one =
    let counted = total_le n (λ label. one_if (ltb 0 (count m (λ p. test p label))))
    (λ label. count m (λ p. test p label)) (λ label h. one_if_positive_le (count m (λ p. test p label))) in
    let swapped = total_swap n m (λ label p. one_if (test p label)) in
    let each = total_bound m 1 (λ p. count n (test p))
    (λ p h. count_at_most_one n (test p) (λ k l k_in l_in k_is l_is. one p k l k_is l_is)) in
    omega (arith, counted, swapped, each)

module _ (i : Tables) where
  -- use and transient use

  pub use_share_under : (m r p at : ℕ) → Small i → use_share i m r p at < 2 ^ 32
  unfolding use_share
  use_share_under m r p at small =
      choice_under (eqb at m) (requirement_of i p r) (2 ^ 32) (lit< tt) (small.requirements p r)

  module _ (a : List Machine) where
    pub use_part_under : (m r k : ℕ) → WellFormed i → Small i → k ≤ process_count i →
        tally k (use_share i m r) a < 2 ^ 48
    use_part_under m r k limits small part =
        tally_under k (2 ^ 16) (2 ^ 32) (use_share i m r) a (omega (arith, limits.few_processes)) (lit< tt)
        (λ p at. use_share_under m r p at small)

    pub use_under : (m r : ℕ) → WellFormed i → Small i → use_of i a m r < 2 ^ 48
    unfolding use_of
    use_under m r limits small = use_part_under m r (process_count i) limits small (omega arith)

    module _ (s : ℕ) where
      -- counts over the processes of a service

      pub members_part_within : (test : ℕ → ℕ → Bool) (k : ℕ) → tally k (of_service i s test) a ≤ k
      unfolding tally of_service
      members_part_within test k = count_le k (λ p. is_of i s p && test p (machine_at a p))

      pub members_within : (test : ℕ → ℕ → Bool) → members_at i a s test ≤ process_count i
      unfolding members_at
      members_within test = members_part_within test (process_count i)

      pub on_machine_within : (m : ℕ) → on_machine i a s m ≤ process_count i
      unfolding on_machine
      on_machine_within m = members_within (λ p at. eqb at m)

      -- the labels below n that are the location of a process of service s
      pub locations_part_within : (n : ℕ) → count n (λ label. ltb 0 (in_location i a s label)) ≤ process_count i
      unfolding in_location members_at tally of_service
      locations_part_within n =
          labels_within n (process_count i) (λ p label. is_of i s p && eqb (location_of i (machine_at a p)) label)
          (λ p k l k_is l_is. sym (eqb-true _ _ (and_parts _ _ k_is).1) ∙ eqb-true _ _ (and_parts _ _ l_is).1)

      pub locations_within : locations_of i a s ≤ process_count i
      unfolding locations_of
      locations_within = locations_part_within (2 ^ 32)

    -- the load cost, from one machine to all resources

    pub excess_under : (r m : ℕ) → WellFormed i → Small i → excess_on i a r m < 2 ^ 48
    unfolding excess_on
    excess_under r m limits small = omega (arith, use_under m r limits small)

    pub excess_sum_under : (r k : ℕ) → WellFormed i → Small i → k ≤ machine_count i → total k (excess_on i a r) < 2 ^ 61
    excess_sum_under r k limits small part =
        total_under k (2 ^ 13) (2 ^ 48) (excess_on i a r) (omega (arith, limits.few_machines)) (lit< tt)
        (λ m h. excess_under r m limits small)

    pub load_part_under : (r : ℕ) → WellFormed i → Small i → load_part i a r < 2 ^ 93
    unfolding load_part
    load_part_under r limits small = mul-lt (load_weight_of i r) (total (machine_count i) (excess_on i a r)) (2 ^ 32)
        (2 ^ 61) (small.load_weights r) (excess_sum_under r (machine_count i) limits small (omega arith))

    pub load_sum_under : (k : ℕ) → WellFormed i → Small i → k ≤ resource_count i → total k (load_part i a) < 2 ^ 98
    load_sum_under k limits small part =
        total_under k (2 ^ 5) (2 ^ 93) (load_part i a) (omega (arith, limits.few_resources)) (lit< tt)
        (λ r h. load_part_under r limits small)

    pub load_under : WellFormed i → Small i → load_cost i a < 2 ^ 98
    unfolding load_cost
    load_under limits small = load_sum_under (resource_count i) limits small (omega arith)

    -- the balance cost, from one machine to all objectives

    pub available_under : (m r : ℕ) → Small i → available i a m r < 2 ^ 32
    unfolding available
    available_under m r small = omega (arith, small.capacities m r)

    pub wanted_under : (b m r : ℕ) → Small i → target_of i b * available i a m r < 2 ^ 64
    wanted_under b m r small =
        mul-lt (target_of i b) (available i a m r) (2 ^ 32) (2 ^ 32) (small.targets b) (available_under m r small)

    pub shortfall_under : (b m : ℕ) → Small i → shortfall i a b m < 2 ^ 64
    unfolding shortfall
    shortfall_under b m small = let wanted = wanted_under b m (first_of i b) small in omega arith

    pub shortfall_sum_under : (b k : ℕ) → WellFormed i → Small i → k ≤ machine_count i →
        total k (shortfall i a b) < 2 ^ 77
    shortfall_sum_under b k limits small part =
        total_under k (2 ^ 13) (2 ^ 64) (shortfall i a b) (omega (arith, limits.few_machines)) (lit< tt)
        (λ m h. shortfall_under b m small)

    pub balance_part_under : (b : ℕ) → WellFormed i → Small i → balance_part i a b < 2 ^ 109
    unfolding balance_part
    balance_part_under b limits small = mul-lt (balance_weight_of i b) (total (machine_count i) (shortfall i a b))
        (2 ^ 32) (2 ^ 77) (small.balance_weights b) (shortfall_sum_under b (machine_count i) limits small (omega arith))

    pub balance_sum_under : (k : ℕ) → WellFormed i → Small i → k ≤ balance_count i →
        total k (balance_part i a) < 2 ^ 113
    balance_sum_under k limits small part =
        total_under k (2 ^ 4) (2 ^ 109) (balance_part i a) (omega (arith, limits.few_balances)) (lit< tt)
        (λ b h. balance_part_under b limits small)

    pub balance_under : WellFormed i → Small i → balance_cost i a < 2 ^ 113
    unfolding balance_cost
    balance_under limits small = balance_sum_under (balance_count i) limits small (omega arith)

  pub transient_share_under : (a0 : List Machine) (m r p at : ℕ) → Small i → transient_share i a0 m r p at < 2 ^ 32
  unfolding transient_share
  transient_share_under a0 m r p at small = choice_under (eqb (machine_at a0 p) m || eqb at m) (requirement_of i p r)
      (2 ^ 32) (lit< tt) (small.requirements p r)

  module _ (a0 : List Machine) (p at : ℕ) (small : Small i) where
    -- the process cost

    pub process_share_under : process_share i a0 p at < 2 ^ 32
    unfolding process_share
    process_share_under =
        other_under (eqb at (machine_at a0 p)) (process_cost_of i p) (2 ^ 32) (lit< tt) (small.process_costs p)

    -- the machine cost

    pub way_share_under : way_share i a0 p at < 2 ^ 32
    unfolding way_share
    way_share_under = small.way_costs (machine_at a0 p) at

  module _ (a0 a : List Machine) where
    pub transient_part_under : (m r k : ℕ) → WellFormed i → Small i →
        k ≤ process_count i → tally k (transient_share i a0 m r) a < 2 ^ 48
    transient_part_under m r k limits small part = tally_under k (2 ^ 16) (2 ^ 32) (transient_share i a0 m r) a
        (omega (arith, limits.few_processes)) (lit< tt) (λ p at. transient_share_under a0 m r p at small)

    pub transient_under : (m r : ℕ) → WellFormed i → Small i → transient_of i a0 a m r < 2 ^ 48
    unfolding transient_of
    transient_under m r limits small = transient_part_under m r (process_count i) limits small (omega arith)

    pub moved_within : (s : ℕ) → moved_of i a0 a s ≤ process_count i
    unfolding moved_of
    moved_within s = members_within a s _

    module _ (k : ℕ) where
      module _ (limits : WellFormed i) (small : Small i) (part : k ≤ process_count i) where
        pub process_part_under : tally k (process_share i a0) a < 2 ^ 48
        process_part_under = tally_under k (2 ^ 16) (2 ^ 32) (process_share i a0) a
            (omega (arith, limits.few_processes)) (lit< tt) (λ p at. process_share_under a0 p at small)

        pub way_part_under : tally k (way_share i a0) a < 2 ^ 48
        way_part_under =
            tally_under k (2 ^ 16) (2 ^ 32) (way_share i a0) a (omega (arith, limits.few_processes)) (lit< tt)
            (λ p at. way_share_under a0 p at small)

      -- the service cost

      pub most_moved_within : greatest k (moved_of i a0 a) ≤ process_count i
      most_moved_within = greatest_least k (process_count i) (moved_of i a0 a) (λ s h. moved_within s)

    module _ (limits : WellFormed i) (small : Small i) where
      pub process_under : process_cost i a0 a < 2 ^ 80
      unfolding process_cost
      process_under = mul-lt (process_weight_of i) (tally (process_count i) (process_share i a0) a)
          (2 ^ 32) (2 ^ 48) small.process_weight (process_part_under (process_count i) limits small (omega arith))

      pub service_under : service_cost i a0 a < 2 ^ 48
      unfolding service_cost
      service_under = mul-lt (service_weight_of i) (greatest (service_count i) (moved_of i a0 a)) (2 ^ 32)
          (2 ^ 16) small.service_weight (omega (arith, most_moved_within (service_count i), limits.few_processes))

      pub machine_under : machine_cost i a0 a < 2 ^ 80
      unfolding machine_cost
      machine_under = mul-lt (machine_weight_of i) (tally (process_count i) (way_share i a0) a) (2 ^ 32)
          (2 ^ 48) small.machine_weight (way_part_under (process_count i) limits small (omega arith))

      -- the objective

      pub objective_under : objective i a0 a < 2 ^ 114
      unfolding objective
      objective_under =
          omega (
            arith,
            load_under a limits small,
            balance_under a limits small,
            process_under,
            service_under,
            machine_under,
          )

pub sums_fit : AllSumsFit
sums_fit i a0 a limits small = record {
  used = λ m r. use_under i a m r limits small;
  transient = λ m r. transient_under i a0 a m r limits small;
  members = members_within i a;
  locations = locations_within i a;
  load = load_under i a limits small;
  balance = balance_under i a limits small;
  process = process_under i a0 a limits small;
  service = service_under i a0 a limits small;
  machine = machine_under i a0 a limits small;
  all = objective_under i a0 a limits small;
}
