-- What is read of a world, over plain lists and numbers.
use Rattle.std.proofs.Common.{◌≡◌, ◌≢◌, ℕ, ◌+◌, ◌-◌, ◌<◌, ◌≤◌, true, List, length, set, slice_index, eqb, refl, ap, ap₂, sym, ◌∙◌, arith, get_or-set_same, get_or-set_other}
use Rattle.std.proofs.lemmas.Bool.{cond-true, eq-eqb, ne_eqb}
use Rattle.std.proofs.lemmas.List.{length-map, get_or-map}
use Rattle.ra_base.specs.Sums.{pick, count}
use Rattle.ra_base.specs.declared.ids.Machine.{Machine}
use Rattle.ra_base.specs.declared.ids.Service.{Service}
use Rattle.ra_base.proofs.Counts.{one_if_true, one_if_false}
use Rattle.ra_base.proofs.Named.{is_named_at, is_named_from}
use Rattle.ra_base.proofs.Picks.{pick_at, pick_place}
use Rattle.ra_model.specs.declared.raw.Tables.{Tables}
use Rattle.ra_model.specs.Numbers.{resource_count, service_count, process_count, service_of, transient_at, capacity_of, requirement_of, location_of, neighbourhood_of, dependency_count, need_of}
use Rattle.ra_model.specs.Limits.{WellFormed, Small}
use Rattle.ra_model.specs.Assignments.{machine_at}
use Rattle.ra_model.specs.Usage.{use_share, use_of, transient_of}
use Rattle.ra_model.specs.Services.{in_location, in_neighbourhood, locations_of}
use Rattle.ra_model.specs.Relations.{depends}
use Rattle.ra_model.specs.Situations.{situation}
use Rattle.ra_model.proofs.TallyLemmas.{tally_term}
use Rattle.ra_rows.specs.Rows.{IsUsageRow, IsTransientRow}
use Rattle.ra_topology.proofs.NeedLemmas.{need_within}
use Rattle.ra_topology.specs.Fits.{AreDistinctNeeds, AreDependants}
use Rattle.ra_topology.specs.Lists.{services_of, numbers_of, service_at, is_dependant, AreDistinctNeedsOf, AreDependantsOf}
use Rattle.ra_shift.specs.Conditions.{HasRoom, HasRoomBetween, FindsOtherNeeds, MayLeave}
use Rattle.ra_shift.specs.Sharing.{AreRequired, use_without, use_with, locations_without}
use Rattle.ra_shift.proofs.SpreadLaws.{some_location}

-- one more number of a list that is filled
pub filled_more : (numbers : List ℕ) (f : ℕ → ℕ) (r v : ℕ) → ((k : ℕ) → k < r → slice_index numbers k ≡ f k) →
    r < length numbers → v ≡ f r → (k : ℕ) → k < r + 1 → slice_index (set numbers r v) k ≡ f k
filled_more numbers f r v so_far within is k below = grind (arith, get_or-set_same, get_or-set_other)

-- the dependants of a service, by place
number_at : (services : List Service) (k : ℕ) → k < length services → slice_index (numbers_of services) k ≡
    service_at services k
unfolding service_at
number_at services k within = grind (arith, get_or-map)

module _ (i : Tables) where
  -- what p requires, by another name of the instance
  pub required_in : (j : Tables) (p : ℕ) (numbers : List ℕ) → j ≡ i → length numbers ≡ resource_count j →
      ((r : ℕ) → r < resource_count j → slice_index numbers r ≡ requirement_of j p r) → AreRequired i p numbers
  required_in j p numbers same width each =
      let are : AreRequired j p numbers = record { width = width; each = each } in
      rw same at are

  -- a machine's row of use, with what p requires and without it
  pub used_with : (j : Tables) (a : List Machine) (p to r : ℕ) (used required : List ℕ) → j ≡ i →
      IsUsageRow j a to used → AreRequired i p required → r < resource_count i →
      slice_index used r + slice_index required r ≡ use_with i a p to r
  unfolding use_with
  used_with j a p to r used required same row are within = grind arith

  pub between_with : (j : Tables) (a0 b0 a : List Machine) (p to r : ℕ) (between required : List ℕ) → j ≡ i → b0 ≡ a0 →
      IsTransientRow j b0 a to between → AreRequired i p required → r < resource_count i →
      slice_index between r + slice_index required r ≡ transient_of i a0 a to r + requirement_of i p r
  between_with j a0 b0 a p to r between required same start row are within = grind arith

  pub used_without : (j : Tables) (a : List Machine) (p from r : ℕ) (used required : List ℕ) → j ≡ i →
      IsUsageRow j a from used → AreRequired i p required → from ≡ machine_at a p → r < resource_count i →
      slice_index used r - slice_index required r ≡ use_without i a p r
  unfolding use_without
  used_without j a p from r used required same row are here within = grind arith

  use_own : (m r p : ℕ) → use_share i m r p m ≡ requirement_of i p r
  unfolding use_share
  use_own m r p = cond-true (eqb m m) _ _ (eq-eqb m m refl)

  pub dependant_at : (s k : ℕ) (services : List Service) → AreDependantsOf i s services →
      k < length services → (service_at services k < service_count i) × (depends i (service_at services k) s ≡ true)
  unfolding is_dependant
  dependant_at s k services are within =
      let here = sym (number_at services k within) ∙ ap (λ xs. slice_index xs k) are.numbers in
      let inside : k < length (pick (service_count i) (is_dependant i s)) =
      omega (arith, length-map services (λ u. u.0), ap (length {A = ℕ}) are.numbers) in
      let at = pick_at (service_count i) (is_dependant i s) k inside in
      (omega (arith, here, at.0), ap (λ u. depends i u s) here ∙ at.1)

  pub dependant_found : (s d : ℕ) (services : List Service) → AreDependantsOf i s services →
      d < service_count i → depends i d s ≡ true → (k : ℕ) × (k < length services) × (service_at services k ≡ d)
  unfolding is_dependant
  dependant_found s d services are within needs =
      let place = pick_place (service_count i) d (is_dependant i s) within needs in
      let k = count d (is_dependant i s) in
      let inside : k < length services =
      omega (arith, place.0, length-map services (λ u. u.0), ap (length {A = ℕ}) are.numbers) in
      (k, inside, sym (number_at services k inside) ∙ ap (λ xs. slice_index xs k) are.numbers ∙ place.1)

  -- what is needed, by place
  -- each dependency is one of the needs that are listed once, and each of those is that of a dependency
  need_listed : (s k : ℕ) (services : List Service) → AreDistinctNeedsOf i s services →
      k < dependency_count i s → (x : ℕ) × (x < length services) × (service_at services x ≡ need_of i s k)
  need_listed s k services are within = is_named_from (length services) (service_at services) (need_of i s k)
      (are.same (need_of i s k) ∙ is_named_at (dependency_count i s) k (need_of i s) (need_of i s k) within refl)

  listed_need : (s x : ℕ) (services : List Service) → AreDistinctNeedsOf i s services → x < length services →
      (k : ℕ) × (k < dependency_count i s) × (need_of i s k ≡ service_at services x)
  listed_need s x services are within = is_named_from (dependency_count i s) (need_of i s) (service_at services x)
      (sym (are.same (service_at services x)) ∙ is_named_at (length services) x (service_at services)
      (service_at services x) within refl)

  module _ (a : List Machine) (p : ℕ) where
    -- a machine uses at least what each of its processes requires
    use_has : (r : ℕ) → p < process_count i →
        use_share i (machine_at a p) r p (machine_at a p) ≤ use_of i a (machine_at a p) r
    unfolding use_of
    use_has r within = grind (arith, tally_term)

    pub use_covers : (r : ℕ) → p < process_count i →
        requirement_of i p r ≤ use_of i a (machine_at a p) r
    use_covers r within = omega (arith, use_has r within, use_own (machine_at a p) r p)

    module _ (s label : ℕ) where
      -- the locations without p
      pub without_last : (n held : ℕ) → Small i → p < process_count i →
          s ≡ service_of i p → label ≡ location_of i (machine_at a p) → n ≡ locations_of i a s →
          held ≡ in_location i a s label → held ≡ 1 → (1 ≤ n) × (n - 1 ≡ locations_without i a p)
      unfolding locations_without
      without_last n held small within s_is label_is n_is held_is last =
          let here =
          ap₂ (in_location i a) (sym s_is) (sym label_is) ∙ sym held_is ∙ last in
          let one = one_if_true (eqb (in_location i a (service_of i p) (location_of i (machine_at a p))) 1)
          (eq-eqb _ _ here) in
          let all = n_is ∙ ap (locations_of i a) s_is in
          (omega (arith, all, one, some_location i a p small within), omega (arith, all, one))

      pub without_more : (n held : ℕ) → s ≡ service_of i p →
          label ≡ location_of i (machine_at a p) → n ≡ locations_of i a s → held ≡ in_location i a s label → held ≢ 1 →
          n ≡ locations_without i a p
      unfolding locations_without
      without_more n held s_is label_is n_is held_is more = grind (arith, one_if_false, ne_eqb)

      -- whether p may leave, from its service's dependants
      pub may_from_many : (n : ℕ) → s ≡ service_of i p →
          label ≡ neighbourhood_of i (machine_at a p) → n ≡ in_neighbourhood i a s label → 1 < n → MayLeave i a p
      may_from_many n s_is label_is n_is many = grind arith

      pub may_from_none : (services : List Service) → s ≡ service_of i p →
          label ≡ neighbourhood_of i (machine_at a p) → AreDependantsOf i s services →
          ((k : ℕ) → k < length services → service_at services k ≢ s → in_neighbourhood i a (service_at services k) label ≡
          0) → MayLeave i a p
      may_from_none services s_is label_is are none = grind (arith, dependant_found)

      pub may_not_from : (k n : ℕ) (services : List Service) → s ≡ service_of i p →
          label ≡ neighbourhood_of i (machine_at a p) → AreDependantsOf i s services → n ≡ in_neighbourhood i a s label →
          n ≤ 1 → k < length services → service_at services k ≢ s → 0 < in_neighbourhood i a (service_at services k) label →
          MayLeave i a p → ⊥
      may_not_from k n services s_is label_is are n_is few within other some may = grind (arith, dependant_at)

    pub needs_hold : (s to label : ℕ) (services : List Service) → s ≡ service_of i p →
        label ≡ neighbourhood_of i to → AreDistinctNeedsOf i s services →
        ((k : ℕ) → k < length services → service_at services k ≢ service_of i p →
        0 < in_neighbourhood i a (service_at services k) label) → FindsOtherNeeds i a p to
    needs_hold s to label services s_is label_is are all = record {
      each = λ k within other.
          let listed = need_listed s k services are (omega (arith, within, ap (dependency_count i) s_is)) in
          let here = listed.2
          ∙ ap (λ u. need_of i u k) s_is in
          omega (arith, all listed.0 listed.1 (λ e. other (sym here ∙ e)), ap₂ (in_neighbourhood i a) here label_is);
    }

    pub needs_lack : (s to label k : ℕ) (services : List Service) → s ≡ service_of i p →
        label ≡ neighbourhood_of i to → AreDistinctNeedsOf i s services → k < length services →
        service_at services k ≢ service_of i p → in_neighbourhood i a (service_at services k) label ≡ 0 →
        FindsOtherNeeds i a p to → ⊥
    needs_lack s to label k services s_is label_is are within other none finds =
        let listed = listed_need s k services are within in
        let here = sym listed.2
        ∙ ap (λ u. need_of i u listed.0) s_is in
        omega (
          arith,
          none,
          finds.each listed.0 (omega (arith, listed.1, ap (dependency_count i) s_is))
              (λ e. other (here ∙ e)),
          ap₂ (in_neighbourhood i a) here label_is,
        )

  pub used_covers : (j : Tables) (a : List Machine) (p from r : ℕ) (used required : List ℕ) → j ≡ i →
      IsUsageRow j a from used → AreRequired i p required → from ≡ machine_at a p → p < process_count i →
      r < resource_count i → slice_index required r ≤ slice_index used r
  used_covers j a p from r used required same row are here known within = grind (arith, use_covers)

  -- room
  pub room_holds : (j : Tables) (a : List Machine) (p to : ℕ) (used required : List ℕ) → j ≡ i →
      IsUsageRow j a to used → AreRequired i p required →
      ((k : ℕ) → k < resource_count i → slice_index used k + slice_index required k ≤ capacity_of i to k) →
      HasRoom i a p to
  room_holds j a p to used required same row are all = grind arith

  pub between_holds : (j : Tables) (a0 b0 a : List Machine) (p to : ℕ) (between required : List ℕ) → j ≡ i → b0 ≡ a0 →
      IsTransientRow j b0 a to between → AreRequired i p required →
      ((k : ℕ) → k < resource_count i → transient_at i k ≡ true → slice_index between k + slice_index required k ≤
      capacity_of i to k) → HasRoomBetween (situation i a0 a) p to
  between_holds j a0 b0 a p to between required same start row are all = grind arith

  -- the lists of a topology
  pub dependants_there : (lists : List (List Service)) (s : ℕ) (services : List Service) →
      AreDependants lists i → s < service_count i → services ≡ services_of lists s → AreDependantsOf i s services
  dependants_there lists s services are within is =
      rw is (are.each s within)

  pub needs_there : (lists : List (List Service)) (s : ℕ) (services : List Service) →
      AreDistinctNeeds lists i → s < service_count i → services ≡ services_of lists s → AreDistinctNeedsOf i s services
  needs_there lists s services are within is =
      rw is (are.each s within)

  pub needs_within : (s k : ℕ) (services : List Service) → WellFormed i → AreDistinctNeedsOf i s services →
      s < service_count i → k < length services → service_at services k < service_count i
  needs_within s k services limits are within inside =
      let listed = listed_need s k services are inside in
      omega (arith, listed.2, need_within i s listed.0 limits within listed.1)
