-- The next machine, service and process that a move touches.
use Rattle.std.proofs.Common.{inl, inr, ◌≡◌, ℕ, ◌<◌, ◌≤◌, true, List, length, get_or, sym, ap, ◌∙◌, arith}
use Rattle.std.proofs.Math.ListN.{get_or-map}
use Rattle.std.proofs.lemmas.List.{length-map}
use Rattle.std.proofs.lemmas.Bool.{cases_lt}
use Rattle.ra_base.specs.Sums.{count, is_named, pick}
use Rattle.ra_base.specs.declared.ids.Service.{Service}
use Rattle.ra_base.proofs.Picks.{pick_place, pick_ascends, pick_at}
use Rattle.ra_model.specs.declared.raw.Tables.{Tables}
use Rattle.ra_model.specs.Numbers.{service_count}
use Rattle.ra_topology.specs.Lists.{service_at, is_dependant, numbers_of, services_of, AreDependantsOf}
use Rattle.ra_topology.specs.TopologyLists.{TopologyLists}
use Rattle.ra_topology.specs.Fits.{IsTopologyOf}
use Rattle.ra_moves.specs.declared.steps.Step.{Step}
use Rattle.ra_moves.specs.Touched.{service_in, moves_service}
use Rattle.ra_weigh.specs.Searching.{ClearTo}

-- all steps

pub named_all : (n k : ℕ) (e : ℕ → ℕ) (low next : ℕ) → n ≡ k → ClearTo (is_named n e) low next →
    ClearTo (is_named k e) low next
named_all n k e low next all clear = rw all at clear

pub moved_all : (i : Tables) (steps : List Step) (n low next : ℕ) → n ≡ length steps →
    ClearTo (is_named n (service_in i steps)) low next → ClearTo (moves_service i steps) low next
unfolding moves_service
moved_all i steps n low next all clear = grind arith

-- the dependants of a service, as they are listed

pub number_at : (list : List Service) (k : ℕ) → get_or (numbers_of list) k 0 ≡ service_at list k
unfolding service_at
number_at list k = get_or-map (λ (s : Service). s.0) list k (record { 0 = 0 })

module _ (i : Tables) where
  pub ascends : (s j k : ℕ) (list : List Service) → AreDependantsOf i s list → j ≤ k → k < length list →
      service_at list j ≤ service_at list k
  ascends s j k list are before within = elim (cases_lt j k) [
    | inl less ↦ let long : length list ≡ length (pick (service_count i) (is_dependant i s)) =
        sym (length-map list (λ (t : Service). t.0)) ∙ ap length are.numbers in
        omega (
          arith,
          pick_ascends (service_count i) (is_dependant i s) j k less (omega (arith, long)),
          ap (λ (l : List ℕ). get_or l j 0) are.numbers,
          ap (λ (l : List ℕ). get_or l k 0) are.numbers,
          number_at list j,
          number_at list k,
        )
    | inr same ↦ let here : j ≡ k = omega arith in omega (arith, ap (service_at list) here)
  ]

  -- each dependant is at a place
  pub dependant_place : {s : ℕ} (u : ℕ) {list : List Service} → AreDependantsOf i s list → u < service_count i →
      is_dependant i s u ≡ true → (k : ℕ) × (k < length list) × (service_at list k ≡ u)
  dependant_place {s} u {list} are within needs =
      let place = count u (is_dependant i s) in
      let at = pick_place _ u _ within needs in
      let long : length list ≡ length (pick (service_count i) (is_dependant i s)) =
      sym (length-map list (λ (t : Service). t.0)) ∙ ap length are.numbers in (
        place,
        omega (arith, at.0, long),
        sym (number_at list place) ∙ ap (λ (l : List ℕ). get_or l place 0) are.numbers
            ∙ at.1,
      )

  pub listed : (topology : TopologyLists) (s : ℕ) {list : List Service} → IsTopologyOf topology i →
      s < service_count i → list ≡ services_of topology.dependants s → AreDependantsOf i s list
  listed topology s fits there is = rw is (fits.dependants.each s there)

  -- a dependant that is listed
  pub dependant_at : (s k : ℕ) (list : List Service) → AreDependantsOf i s list → k < length list →
      (service_at list k < service_count i) × (is_dependant i s (service_at list k) ≡ true)
  dependant_at s k list are within =
      let long : length list ≡ length (pick (service_count i) (is_dependant i s)) =
      sym (length-map list (λ (t : Service). t.0)) ∙ ap length are.numbers in
      let is : get_or (pick (service_count i) (is_dependant i s)) k 0 ≡ service_at list k =
      ap (λ (l : List ℕ). get_or l k 0) (sym are.numbers) ∙ number_at list k in
      let at = pick_at (service_count i) (is_dependant i s) k (omega (arith, long)) in
      (omega (arith, at.0, is), ap (is_dependant i s) (sym is) ∙ at.1)

pub ruleset nexts = (named_all, moved_all)
