-- The services that are joined with one: those on which it depends, and those that depend on it.
use Rattle.std.proofs.Common.{◌≡◌, ℕ, ◌<◌, true, List, All, length, get_or, sym, ap, subst, ◌∙◌, inl, inr}
use Rattle.std.proofs.Common.{arith}
use Rattle.std.proofs.lemmas.Bool.{or_left, or_right, or_cases}
use Rattle.std.proofs.lemmas.List.{length-map, get_or-map}
use Rattle.std.proofs.lemmas.List.Elements.{All-from_get_or}
use Rattle.ra_base.specs.Sums.{count, pick}
use Rattle.ra_base.specs.declared.ids.Service.{Service}
use Rattle.ra_base.proofs.Named.{is_named_at, is_named_from}
use Rattle.ra_base.proofs.Picks.{pick_at, pick_place}
use Rattle.ra_model.specs.declared.raw.Tables.{Tables}
use Rattle.ra_model.specs.Numbers.{service_count, dependency_count}
use Rattle.ra_model.specs.Limits.{WellFormed}
use Rattle.ra_model.specs.Relations.{depends, are_joined}
use Rattle.ra_moves.specs.declared.steps.Step.{Step}
use Rattle.ra_topology.specs.Lists.{numbers_of, service_at, is_dependant, AreNeedsOf, AreDependantsOf}
use Rattle.ra_topology.proofs.NeedLemmas.{need_within}
use Rattle.ra_guards.specs.Lowest.{IsReadOf, IsReadIn, IsReadBy}
use Rattle.ra_guards.proofs.LowestLemmas.{AreBoth}

-- a number of a list of services
number_at : (services : List Service) (k : ℕ) → k < length services →
    get_or (numbers_of services) k 0 ≡ service_at services k
unfolding service_at
number_at services k within = grind (arith, get_or-map)

numbers_length : (services : List Service) → length (numbers_of services) ≡ length services
numbers_length services = length-map services (λ (s : Service). s.0)

module _ (i : Tables) where
  module _ (s : ℕ) where
    -- a service of the list of needs, and of that of dependants
    need_listed : (k : ℕ) (services : List Service) → AreNeedsOf i s services → WellFormed i → s < service_count i →
        k < length services → (service_at services k < service_count i) × (depends i s (service_at services k) ≡ true)
    unfolding depends
    need_listed k services needs limits known within =
        let inside : k < dependency_count i s = omega (arith, needs.one_each) in
        let is = needs.each k inside in (
          omega (arith, is, need_within),
          is_named_at (dependency_count i s) k _
              _ inside (sym is),
        )

    need_found : (u : ℕ) (services : List Service) → AreNeedsOf i s services → depends i s u ≡ true → (k : ℕ)
        × (k < length services) × (service_at services k ≡ u)
    unfolding depends
    need_found u services needs named =
        let found = is_named_from _ _ u named in
        (found.0, omega (arith, found.1, needs.one_each), needs.each found.0 found.1 ∙ found.2)

    dependant_listed : (k : ℕ) (services : List Service) → AreDependantsOf i s services → k < length services →
        (service_at services k < service_count i) × (depends i (service_at services k) s ≡ true)
    unfolding is_dependant
    dependant_listed k services dependants within =
        let is : service_at services k ≡ get_or (pick (service_count i) (is_dependant i s)) k 0 =
        sym (number_at services k within) ∙ ap (λ (xs : List ℕ). get_or xs k 0) dependants.numbers in
        let inside : k < length (pick (service_count i) (is_dependant i s)) =
        omega (arith, numbers_length services, ap (λ (xs : List ℕ). length xs) dependants.numbers) in
        let at = pick_at _ _ k inside in
        (omega (arith, is, at.0), ap (λ n. depends i n s) is ∙ at.1)

    dependant_found : (u : ℕ) (services : List Service) → AreDependantsOf i s services → u < service_count i →
        depends i u s ≡ true → (k : ℕ) × (k < length services) × (service_at services k ≡ u)
    unfolding is_dependant
    dependant_found u services dependants known named =
        let at = pick_place _ u _ known named in
        let k = count u (is_dependant i s) in
        let inside : count u (is_dependant i s) < length services =
        omega (arith, at.0, numbers_length, ap (λ (xs : List ℕ). length xs) dependants.numbers) in
        (k, inside, sym (number_at services k inside) ∙ ap (λ (xs : List ℕ). get_or xs k 0) dependants.numbers ∙ at.1)

    -- all that are listed are services of the instance
    pub needs_known : (services : List Service) → AreNeedsOf i s services → WellFormed i → s < service_count i →
        All (λ (t : Service). t.0 < service_count i) services
    unfolding service_at
    needs_known services needs limits known = All-from_get_or (λ (t : Service). t.0 < service_count i) services
        (record { 0 = 0 }) (λ k within. (need_listed k services needs limits known within).0)

    pub dependants_known : (services : List Service) → AreDependantsOf i s services →
        All (λ (t : Service). t.0 < service_count i) services
    unfolding service_at
    dependants_known services dependants = All-from_get_or (λ (t : Service). t.0 < service_count i) services
        (record { 0 = 0 }) (λ k within. (dependant_listed k services dependants within).0)

  -- the two lists together are the services that are joined with it
  pub both_lists : (steps : List Step) (s : ℕ) (needs dependants : List Service) → AreNeedsOf i s needs →
      AreDependantsOf i s dependants → WellFormed i → s < service_count i →
      AreBoth (IsReadIn i steps needs (length needs)) (IsReadIn i steps dependants (length dependants)) (IsReadBy i
      steps s)
  unfolding are_joined
  both_lists steps s needs dependants are_needs are_dependants limits known = record {
    left = λ g is.
        let listed = need_listed s is.0 needs are_needs limits known is.1 in (
          service_at needs is.0,
          listed.0,
          or_left _
              (depends i (service_at needs is.0) s) listed.1,
          is.2,
        );
    right = λ g is.
        let listed = dependant_listed s is.0 dependants are_dependants is.1 in (
          service_at dependants is.0,
          listed.0,
          or_right (depends i s (service_at dependants is.0))
              _ listed.1,
          is.2,
        );
    cases = λ g by. elim (or_cases (depends i s by.0) (depends i by.0 s) by.2) [
      | inl named ↦ let found = need_found s by.0 needs are_needs named in
          inl (found.0, found.1, subst (λ n. IsReadOf i steps n g) (sym found.2) by.3)
      | inr named ↦ let found = dependant_found s by.0 dependants are_dependants by.1 named in
          inr (found.0, found.1, subst (λ n. IsReadOf i steps n g) (sym found.2) by.3)
    ];
  }
