-- The numbers of an instance in the order in which a model file has them.
use Rattle.std.specs.Prelude.{◌≡◌, ℕ, zero, suc, List, [], ◌∷◌, ◌++◌, map, None}
use Rattle.ra_base.specs.Sums.{one_if}
use Rattle.ra_model.specs.declared.raw.Tables.{Tables}
use Rattle.ra_model.specs.Numbers.{resource_count, machine_count, service_count, process_count, balance_count}
use Rattle.ra_model.specs.Numbers.{transient_at, load_weight_of, neighbourhood_of, location_of, capacity_of, safety_of}
use Rattle.ra_model.specs.Numbers.{way_cost_of, spread_of, dependency_count, need_of, service_of, requirement_of}
use Rattle.ra_model.specs.Numbers.{process_cost_of, first_of, second_of, target_of, balance_weight_of}
use Rattle.ra_model.specs.Numbers.{process_weight_of, service_weight_of, machine_weight_of}
use Rattle.ra_token.specs.Faults.{first_fault}
use Rattle.ra_token.specs.TokenList.{tokens}
use Rattle.ra_token.specs.Values.{value_of}

-- f 0, f 1 .. f (n - 1) end to end
unfoldable pub end_to_end : ℕ → (ℕ → List ℕ) → List ℕ
end_to_end zero f = []
end_to_end (suc n) f = end_to_end n f ++ f n

-- f 0, f 1 .. f (n - 1)
abbrev pub row_numbers : ℕ → (ℕ → ℕ) → List ℕ
row_numbers n f = end_to_end n (λ k. f k ∷ [])

-- a count, and then the numbers of each
abbrev pub with_count : ℕ → (ℕ → List ℕ) → List ℕ
with_count n f = n ∷ end_to_end n f

unfoldable pub resource_numbers : Tables → ℕ → List ℕ
resource_numbers i r = one_if (transient_at i r) ∷ load_weight_of i r ∷ []

unfoldable pub machine_numbers : Tables → ℕ → List ℕ
machine_numbers i m =
    neighbourhood_of i m ∷ location_of i m ∷ (row_numbers (resource_count i) (capacity_of i m)
    ++ (row_numbers (resource_count i) (safety_of i m)
    ++ row_numbers (machine_count i) (way_cost_of i m)))

unfoldable pub service_numbers : Tables → ℕ → List ℕ
service_numbers i s =
    spread_of i s ∷ dependency_count i s ∷ row_numbers (dependency_count i s) (need_of i s)

unfoldable pub process_numbers : Tables → ℕ → List ℕ
process_numbers i p =
    service_of i p ∷ (row_numbers (resource_count i) (requirement_of i p) ++ process_cost_of i p ∷ [])

unfoldable pub balance_numbers : Tables → ℕ → List ℕ
balance_numbers i b = first_of i b ∷ second_of i b ∷ target_of i b ∷ balance_weight_of i b ∷ []

-- all numbers
unfoldable pub all_numbers_of : Tables → List ℕ
all_numbers_of i =
    with_count (resource_count i) (resource_numbers i)
    ++ (with_count (machine_count i) (machine_numbers i)
    ++ (with_count (service_count i) (service_numbers i)
    ++ (with_count (process_count i) (process_numbers i)
    ++ (with_count (balance_count i) (balance_numbers i)
    ++ (process_weight_of i ∷ service_weight_of i ∷ machine_weight_of i ∷ [])))))

-- the bytes are the text of an instance: they have no fault, and their numbers are exactly those of the instance
pub record IsTextOf (bytes : List ℕ) (i : Tables) : Type 0 where
  pub sound : first_fault bytes ≡ None
  pub numbers : map value_of (tokens bytes) ≡ all_numbers_of i
