-- How many numbers an instance within the limits has.
use Rattle.std.proofs.Common.{◌≡◌, ℕ, zero, suc, ◌+◌, ◌*◌, ◌<◌, ◌≤◌, List, [], ◌∷◌, ◌++◌, length, arith, length-append}
use Rattle.ra_model.specs.declared.raw.Tables.{Tables}
use Rattle.ra_model.specs.Limits.{WellFormed}
use Rattle.ra_model.specs.Numbers.{resource_count, machine_count, service_count, process_count, balance_count}
use Rattle.ra_model.specs.Numbers.{capacity_of, safety_of, way_cost_of, dependency_start, dependency_end}
use Rattle.ra_model.specs.Numbers.{dependency_count, need_of, requirement_of, process_cost_of, process_weight_of}
use Rattle.ra_model.specs.Numbers.{service_weight_of, machine_weight_of}
use Rattle.ra_model_read.specs.FieldOrder.{end_to_end, row_numbers, with_count, resource_numbers, machine_numbers}
use Rattle.ra_model_read.specs.FieldOrder.{service_numbers}
use Rattle.ra_model_read.specs.FieldOrder.{process_numbers, balance_numbers, all_numbers_of}

length_row : (n : ℕ) (f : ℕ → ℕ) → length (row_numbers n f) ≡ n
unfolding end_to_end
length_row zero f = omega arith
length_row (suc n) f = omega (arith, length-append (row_numbers n f) (f n ∷ []), length_row n f)

joined_few : (n c : ℕ) (f : ℕ → List ℕ) → ((k : ℕ) → k < n → length (f k) ≤ c) → length (end_to_end n f) ≤ n * c
unfolding end_to_end
joined_few zero c f each = omega arith
joined_few (suc n) c f each =
    let before : length (end_to_end n f) ≤ n * c = joined_few n c f (λ k within. each k (omega arith)) in
    let one : length (f n) ≤ c = each n (omega arith) in
    omega (arith, length-append (end_to_end n f) (f n), before, one)

length_six : (a b c d e f : List ℕ) → length (a ++ (b ++ (c ++ (d ++ (e ++ f))))) ≡ length a
    + (length b + (length c + (length d + (length e + length f))))
length_six a b c d e f = simp length-append

module _ (i : Tables) (fits : WellFormed i) where
  resource_few : (r : ℕ) → length (resource_numbers i r) ≤ 2
  unfolding resource_numbers
  resource_few r = omega arith

  machine_few : (m : ℕ) → length (machine_numbers i m) ≤ 5042
  unfolding machine_numbers
  machine_few m =
      let caps = row_numbers (resource_count i) (capacity_of i m) in
      let safeties = row_numbers (resource_count i) (safety_of i m) in
      let ways = row_numbers (machine_count i) (way_cost_of i m) in
      omega (
        arith,
        length-append caps (safeties ++ ways),
        length-append safeties ways,
        length_row (resource_count i) (capacity_of i m),
        length_row (resource_count i) (safety_of i m),
        length_row (machine_count i) (way_cost_of i m),
        fits.few_resources,
        fits.few_machines,
      )

  process_few : (p : ℕ) → length (process_numbers i p) ≤ 22
  unfolding process_numbers
  process_few p =
      let row = row_numbers (resource_count i) (requirement_of i p) in
      omega (
        arith,
        length-append row (process_cost_of i p ∷ []),
        length_row (resource_count i) (requirement_of i p),
        fits.few_resources,
      )

  balance_few : (b : ℕ) → length (balance_numbers i b) ≤ 4
  unfolding balance_numbers
  balance_few b = omega arith

  service_many : (s : ℕ) → length (service_numbers i s) ≡ 2 + dependency_count i s
  unfolding service_numbers
  service_many s = omega (arith, length_row (dependency_count i s) (need_of i s))

  -- two numbers of each service, and the dependencies up to there
  services_many : (n : ℕ) → n ≤ service_count i →
      length (end_to_end n (service_numbers i)) ≡ 2 * n + dependency_start i n
  unfolding end_to_end dependency_start dependency_count
  services_many zero within = omega arith
  services_many (suc n) within =
      let ordered : dependency_start i n ≤ dependency_end i n = fits.in_order n (omega arith) in
      let before : length (end_to_end n (service_numbers i)) ≡ 2 * n + dependency_start i n =
      services_many n (omega arith) in
      omega (
        arith,
        length-append (end_to_end n (service_numbers i)) (service_numbers i n),
        before,
        service_many n,
        ordered,
      )

  pub numbers_few : length (all_numbers_of i) ≤ 30000000
  unfolding all_numbers_of
  numbers_few =
      let weights = process_weight_of i ∷ service_weight_of i ∷ machine_weight_of i ∷ [] in
      let all = length_six (with_count (resource_count i) (resource_numbers i))
      (with_count (machine_count i) (machine_numbers i)) (with_count (service_count i) (service_numbers i))
      (with_count (process_count i) (process_numbers i)) (with_count (balance_count i) (balance_numbers i)) weights in
      let resources : length (end_to_end (resource_count i) (resource_numbers i)) ≤ resource_count i * 2 =
      joined_few (resource_count i) 2 (resource_numbers i) (λ r within. resource_few r) in
      let machines : length (end_to_end (machine_count i) (machine_numbers i)) ≤ machine_count i * 5042 =
      joined_few (machine_count i) 5042 (machine_numbers i) (λ m within. machine_few m) in
      let services : length (end_to_end (service_count i) (service_numbers i))
      ≡ 2 * service_count i + dependency_start i
      (service_count i) = services_many (service_count i) (omega arith) in
      let processes : length (end_to_end (process_count i) (process_numbers i)) ≤ process_count i * 22 =
      joined_few (process_count i) 22 (process_numbers i) (λ p within. process_few p) in
      let balances : length (end_to_end (balance_count i) (balance_numbers i)) ≤ balance_count i * 4 =
      joined_few (balance_count i) 4 (balance_numbers i) (λ b within. balance_few b) in
      omega (
        arith,
        all,
        resources,
        machines,
        services,
        processes,
        balances,
        fits.few_resources,
        fits.few_machines,
        fits.few_services,
        fits.few_processes,
        fits.few_balances,
        fits.all_owned,
        fits.few_dependencies,
      )
