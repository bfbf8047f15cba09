-- What the services that are read from lists are, and how many there are of what is counted.
use Rattle.std.proofs.Common.{inl, inr, ◌≡◌, ℕ, ◌<◌, ◌≤◌, Bool, true, false, cond, eqb, List, length, get_or, sym}
use Rattle.std.proofs.Common.{refl, ap}
use Rattle.std.proofs.Common.{◌∙◌, zero-mul, arith}
use Rattle.std.proofs.Math.ListN.{get_or-map}
use Rattle.std.proofs.lemmas.List.{length-map}
use Rattle.std.proofs.lemmas.Bool.{cases_lt, both_ways, lt-ltb}
use Rattle.ra_base.specs.Sums.{total, count, pick}
use Rattle.ra_base.specs.declared.ids.Service.{Service}
use Rattle.ra_base.proofs.Sums.{total_same}
use Rattle.ra_base.proofs.Picks.{pick_at, pick_total, pick_length}
use Rattle.ra_base.proofs.Counts.{count_le}
use Rattle.ra_base.proofs.Named.{is_named_count}
use Rattle.ra_base.specs.declared.ids.Machine.{Machine}
use Rattle.ra_model.specs.declared.raw.Tables.{Tables}
use Rattle.ra_model.specs.Numbers.{service_count, dependency_count, need_of}
use Rattle.ra_model.specs.Limits.{WellFormed}
use Rattle.ra_model.specs.Relations.{depends}
use Rattle.ra_topology.specs.TopologyLists.{TopologyLists}
use Rattle.ra_topology.specs.Fits.{IsTopologyOf}
use Rattle.ra_topology.specs.Lists.{numbers_of, service_at, services_of, is_dependant, AreDependantsOf}
use Rattle.ra_repair.specs.Touched.{is_link, links, left_alone, all_alone}

-- the list of a service's dependants
pub listed : {i : Tables} {topology : TopologyLists} (s : ℕ) {list : List Service} → IsTopologyOf topology i →
    s < service_count i → list ≡ services_of topology.dependants s → AreDependantsOf i s list
listed s fits there is = rw is (fits.dependants.each s there)

-- number k of a list of services
number_at : (list : List Service) (k : ℕ) → get_or (numbers_of list) k 0 ≡ service_at list k
unfolding service_at
number_at list k = get_or-map (λ (t : Service). t.0) list k (record { 0 = 0 })

module _ (i : Tables) (s : ℕ) where
  -- the service of a dependency exists
  pub need_there : (k need : ℕ) → WellFormed i → s < service_count i → k < dependency_count i s → need ≡ need_of i s k →
      need < service_count i
  unfolding need_of dependency_count
  need_there k need limits there within is = grind arith

  -- there are few dependencies
  pub dependency_few : WellFormed i → s < service_count i → dependency_count i s ≤ 100000
  unfolding dependency_count
  dependency_few limits there = omega (arith, limits.within s there, limits.few_dependencies)

  as_many : (list : List Service) → AreDependantsOf i s list →
      length list ≡ length (pick (service_count i) (is_dependant i s))
  as_many list are = grind (arith, length-map)

  module _ (k : ℕ) (list : List Service) (are : AreDependantsOf i s list) where
    picked_at : get_or (pick (service_count i) (is_dependant i s)) k 0 ≡ service_at list k
    picked_at = grind (arith, number_at)

  -- a service that doesn't depend on s has no link to it
  unlinked : (u : ℕ) → is_dependant i s u ≡ false → links i s u ≡ 0
  unfolding is_dependant depends links is_link
  unlinked u none = elim (cases_lt 0 (count (dependency_count i u) (λ k. eqb (need_of i u k) s))) [
    | inl some ↦ absurd
        (both_ways _ none (sym (is_named_count (dependency_count i u) (need_of i u) s) ∙ lt-ltb 0 _ some))
    | inr zeros ↦ omega arith
  ]

-- each dependant exists
pub dependant_there : {i : Tables} {s : ℕ} (k : ℕ) {list : List Service} → AreDependantsOf i s list →
    k < length list → service_at list k < service_count i
dependant_there {i} {s} k {list} are within =
    let found = pick_at _ _ k (omega (arith, as_many)) in
    rw (← picked_at i s k list are) found.0

pub dependants_few : {i : Tables} {s : ℕ} {list : List Service} → WellFormed i → AreDependantsOf i s list →
    length list ≤ 50000
dependants_few {i} {s} {list} limits are =
    omega (arith, as_many, pick_length, count_le, limits.few_services)

either_zero : (t : Bool) → cond {A = ℕ} t 0 0 ≡ 0
either_zero true = refl
either_zero false = refl

module _ (i : Tables) (a : List Machine) (s label : ℕ) where
  -- so the sum over all services is the sum over the dependants
  only_dependants : (u : ℕ) → cond (is_dependant i s u) (left_alone i a s label u) 0 ≡ left_alone i a s label u
  unfolding left_alone
  only_dependants u = grind (arith, unlinked, zero-mul, either_zero)

  pub alone_listed : (n : ℕ) {list : List Service} → AreDependantsOf i s list → n ≡ length list →
      total n (λ k. left_alone i a s label (service_at list k)) ≡ all_alone i a s label
  unfolding all_alone
  alone_listed n {list} are all =
      let picked = pick (service_count i) (is_dependant i s) in
      ap (λ k. total k (λ j. left_alone i a s label (service_at list j))) all
      ∙ total_same (length list) (λ k. left_alone i a s label (service_at list k))
      (λ k. left_alone i a s label (get_or picked k 0))
      (λ k h. ap (left_alone i a s label) (sym (picked_at i s k list are)))
      ∙ ap (λ n. total n (λ k. left_alone i a s label (get_or picked k 0))) (as_many i s list are)
      ∙ pick_total (service_count i) (is_dependant i s) (left_alone i a s label)
      ∙ total_same (service_count i) (λ u. cond (is_dependant i s u) (left_alone i a s label u) 0)
      (left_alone i a s label) (λ u h. only_dependants u)
