-- Dependencies hold after a move if each process finds what its service needs in the neighbourhood that it enters, and
-- leaves none of a service that needs it alone in the one that it leaves.
use Rattle.std.proofs.Common.{inl, inr, ◌≡◌, ◌≢◌, ℕ, ◌+◌, ◌<◌, ◌≤◌, true, false, List, None, length, sym, refl, ap, ◌∙◌, ⊎_elim, subst, arith, eq-eqb}
use Rattle.std.proofs.lemmas.Bool.{cases_Bool, cases_lt, cond-true, eqb-true, eqb-false, ne_eqb}
use Rattle.ra_base.proofs.Searches.{first_none_from, first_none_at}
use Rattle.ra_model.specs.Limits.{WellFormed}
use Rattle.ra_model.specs.Services.{is_of, in_neighbourhood}
use Rattle.ra_base.specs.Sums.{is_named}
use Rattle.ra_base.specs.declared.ids.Machine.{Machine}
use Rattle.ra_base.proofs.Named.{is_named_at, is_named_from}
use Rattle.ra_model.specs.declared.raw.Tables.{Tables}
use Rattle.ra_model.specs.Numbers.{service_count, process_count, dependency_count, need_of, service_of, neighbourhood_of}
use Rattle.ra_model.specs.Assignments.{machine_at}
use Rattle.ra_model.specs.Relations.{depends}
use Rattle.ra_model.specs.Feasible.{HasNear}
use Rattle.ra_model.specs.Broken.{near_of, far_test, dependency_test, pair_dependency, service_dependency, broken_dependency}
use Rattle.ra_model.proofs.BrokenLemmas.{Fine, dependency_met, dependency_unbroken, near_from_count, count_from_near, cause_none}
use Rattle.ra_moves.specs.declared.steps.Step.{Step}
use Rattle.ra_moves.specs.Steps.{process_in, from_in, to_in}
use Rattle.ra_moves.specs.Replacing.{applied}
use Rattle.ra_moves.specs.Touched.{service_in}
use Rattle.ra_moves.specs.Moving.{IsMove}
use Rattle.ra_moves.proofs.StayLemmas.{applied_of, process_stays}
use Rattle.ra_base.specs.declared.ids.Service.{Service}
use Rattle.ra_topology.specs.TopologyLists.{TopologyLists}
use Rattle.ra_topology.specs.Lists.{service_at, services_of, is_dependant, AreDependantsOf, AreDistinctNeedsOf}
use Rattle.ra_topology.specs.Fits.{IsTopologyOf}
use Rattle.ra_weigh.specs.declared.marks.Mark.TheVariants.{InNeighbourhood}
use Rattle.ra_weigh.specs.Marks.{marked}
use Rattle.ra_model.proofs.BrokenLemmas.{held_if}
use Rattle.ra_weigh.proofs.TestLemmas.{near_is}
use Rattle.ra_weigh.proofs.StepLemmas.{need_there}
use Rattle.ra_weigh.proofs.NextLemmas.{dependant_place, dependant_at}
use Rattle.ra_weigh.specs.Nearness.{FindsNeeds, LeavesNone, KeepNear, FindsOne, LeavesOne, StaysNear}

module _ (i : Tables) where
  -- the services on which a service depends, as they are listed

  pub distinct_listed : (topology : TopologyLists) (s : ℕ) {list : List Service} → IsTopologyOf topology i →
      s < service_count i → list ≡ services_of topology.distinct s → AreDistinctNeedsOf i s list
  distinct_listed topology s fits there is = rw is (fits.distinct.each s there)

  -- each dependency is on one of them
  need_listed : (s k : ℕ) (list : List Service) → AreDistinctNeedsOf i s list → k < dependency_count i s →
      (x : ℕ) × (x < length list) × (service_at list x ≡ need_of i s k)
  need_listed s k list are within = is_named_from _ _ _
      (are.same (need_of i s k) ∙ is_named_at (dependency_count i s) k (need_of i s) (need_of i s k) within refl)

  -- and each of them is that of a dependency
  listed_need : (s x : ℕ) (list : List Service) → AreDistinctNeedsOf i s list → x < length list → (k : ℕ)
      × (k < dependency_count i s) × (need_of i s k ≡ service_at list x)
  listed_need s x list are within = is_named_from _ _ _
      (sym (are.same (service_at list x))
      ∙ is_named_at (length list) x (service_at list) (service_at list x) within refl)

  pub listed_there : (s x u : ℕ) (list : List Service) → WellFormed i → AreDistinctNeedsOf i s list →
      s < service_count i → x < length list → u ≡ service_at list x → u < service_count i
  listed_there s x u list limits are there within is =
      let at = listed_need s x list are within in
      need_there limits there at.1 (is ∙ sym at.2)

  module _ (a : List Machine) (steps : List Step) where
    -- none of what is needed would be near a process of the service

    -- a step's process has its new machine
    lands : (j p : ℕ) → IsMove i a steps → j < length steps → process_in steps j ≡ p →
        machine_at (applied a steps) p ≡ to_in steps j
    lands j p move within is =
        ap (machine_at (applied a steps)) (sym is) ∙ (applied_of i a steps move).moved j within

    module _ (s k p : ℕ) where
      near_entered : (j : ℕ) → IsMove i a steps → StaysNear i (applied a steps) steps s (need_of i s k) (length steps) →
          k < dependency_count i s → service_of i p ≡ s → j < length steps → process_in steps j ≡ p →
          HasNear i (applied a steps) (need_of i s k) (neighbourhood_of i (machine_at (applied a steps) p))
      unfolding service_in
      near_entered j move keeps k_in of within is = grind (arith, near_from_count, lands)

      -- a process of a service that is needed has left the neighbourhood of one that stays
      left_alone : (q j : ℕ) → IsMove i a steps → StaysNear i (applied a steps) steps s (need_of i s k) (length steps) →
          s < service_count i → k < dependency_count i s → p < process_count i → service_of i p ≡ s →
          machine_at (applied a steps) p ≡ machine_at a p → service_of i q ≡ need_of i s k →
          neighbourhood_of i (machine_at a q) ≡ neighbourhood_of i (machine_at a p) → j < length steps →
          process_in steps j ≡ q →
          in_neighbourhood i (applied a steps) (need_of i s k) (neighbourhood_of i (machine_at a p)) ≡ 0 → ⊥
      unfolding service_in
      left_alone q j move keeps s_in k_in p_in of stays of_q near within is none = grind (arith, count_from_near)

  module _ (a0 a : List Machine) (steps : List Step) (s k p : ℕ) (move : IsMove i a steps) (fine : Fine i a0 a)
      (keeps : StaysNear i (applied a steps) steps s (need_of i s k) (length steps)) (s_in : s < service_count i)
      (k_in : k < dependency_count i s) (p_in : p < process_count i) (of : service_of i p ≡ s) where
    near_stayed : is_named (length steps) (process_in steps) p ≡
        false → HasNear i (applied a steps) (need_of i s k) (neighbourhood_of i (machine_at (applied a steps) p))
    near_stayed unnamed =
        let b = applied a steps in
        let label = neighbourhood_of i (machine_at a p) in
        let stays = process_stays i a steps p move unnamed in
        let near : HasNear i a (need_of i s k) label = dependency_met i a fine.dependency s k p s_in k_in p_in of in
        let found : HasNear i b (need_of i s k) label = ⊎_elim
        (λ (some : 0 < in_neighbourhood i b (need_of i s k) label). near_from_count i b _ label some)
        (λ (none : in_neighbourhood i b (need_of i s k) label ≤ 0). elim
        (cases_Bool (is_named (length steps) (process_in steps) near.0)) [
          | inl named ↦ let at = is_named_from _ _ near.0 named in
              absurd (left_alone a steps s k p near.0 at.0 move keeps s_in k_in p_in of stays near.2 near.3 at.1 at.2
              (omega arith))
          | inr other ↦
              (near.0, near.1, near.2, ap (neighbourhood_of i) (process_stays i a steps near.0 move other) ∙ near.3)
        ])
        (cases_lt 0 (in_neighbourhood i b (need_of i s k) label)) in
        rw stays found

    near_always : HasNear i (applied a steps) (need_of i s k) (neighbourhood_of i (machine_at (applied a steps) p))
    near_always = elim (cases_Bool (is_named (length steps) (process_in steps) p)) [
      | inl named ↦ let at = is_named_from _ _ p named in
          near_entered a steps s k p at.0 move keeps k_in of at.1 at.2
      | inr other ↦ near_stayed other
    ]

  of_service_is : (s p : ℕ) → is_of i s p ≡ true → service_of i p ≡ s
  unfolding is_of
  of_service_is s p member = eqb-true _ _ member

-- one need after another

-- the first n services of a list have a process in a neighbourhood
pub record NeedsFound (i : Tables) (b : List Machine) (list : List Service) (label n : ℕ) : Type 0 where
  pub each : (x : ℕ) → x < n → 0 < in_neighbourhood i b (service_at list x) label

-- one dependant after another

-- the first n of some services have no process in a neighbourhood
pub record NoneNear (i : Tables) (b : List Machine) (label : ℕ) (list : List Service) (n : ℕ) : Type 0 where
  pub each : (k : ℕ) → k < n → in_neighbourhood i b (service_at list k) label ≡ 0

module _ (i : Tables) (b : List Machine) (steps : List Step) (s : ℕ) where
  module _ (u : ℕ) where
    -- one step after another

    pub stays_start : StaysNear i b steps s u 0
    stays_start = grind arith

    pub stays_next : (n t to from : ℕ) → StaysNear i b steps s u n → service_in i steps n ≡ t →
        neighbourhood_of i (to_in steps n) ≡ to → neighbourhood_of i (from_in steps n) ≡ from → FindsOne i b s u t to →
        LeavesOne i b s u t from → StaysNear i b steps s u (n + 1)
    stays_next n t to from so_far t_is to_is from_is finds leaves = grind arith

    module _ {n : ℕ} (j : ℕ) {t : ℕ} where
      pub stays_found : (to : ℕ) → StaysNear i b steps s u n → j < n → service_in i steps j ≡ t →
          neighbourhood_of i (to_in steps j) ≡ to → FindsOne i b s u t to
      stays_found to stays within t_is to_is = rw (t_is, to_is) at (stays.finds j within)

      pub stays_left : (from : ℕ) → StaysNear i b steps s u n → j < n → service_in i steps j ≡ t →
          neighbourhood_of i (from_in steps j) ≡ from → LeavesOne i b s u t from
      stays_left from stays within t_is from_is = rw (t_is, from_is) at (stays.leaves j within)

  -- if each keeps near what it needs, each service stays near each one that it needs
  stays_all : (k : ℕ) → KeepNear i b steps (length steps) → s < service_count i → k < dependency_count i s →
      StaysNear i b steps s (need_of i s k) (length steps)
  unfolding depends
  stays_all k keeps s_in k_in = record {
    finds = λ j within. record {
      each = λ is.
          let finds : FindsNeeds i b s (neighbourhood_of i (to_in steps j)) =
          subst (λ t. FindsNeeds i b t (neighbourhood_of i (to_in steps j))) is (keeps.finds j within) in
          finds.each k k_in;
    };
    leaves = λ j within. record {
      each = λ is none.
          let leaves : LeavesNone i b (need_of i s k) (neighbourhood_of i (from_in steps j)) =
          subst (λ t. LeavesNone i b t (neighbourhood_of i (from_in steps j))) is (keeps.leaves j within) in
          leaves.each none s s_in (is_named_at (dependency_count i s) k (need_of i s) (need_of i s k) k_in refl);
    };
  }

module _ (i : Tables) (b : List Machine) where
  module _ (list : List Service) (label : ℕ) where
    pub needs_start : NeedsFound i b list label 0
    needs_start = record { each = λ x before. absurd (omega arith) }

    pub need_next : (n need near : ℕ) → NeedsFound i b list label n → need ≡ service_at list n →
        near ≡ marked i InNeighbourhood b need label → near ≢ 0 → NeedsFound i b list label (n + 1)
    need_next n need near so_far is count some = grind (arith, near_is)

  module _ (label : ℕ) (list : List Service) where
    pub near_start : NoneNear i b label list 0
    near_start = record { each = λ k before. absurd (omega arith) }

    pub near_next : {n : ℕ} (u : ℕ) {near : ℕ} → NoneNear i b label list n → u ≡ service_at list n →
        near ≡ marked i InNeighbourhood b u label → near ≤ 0 → NoneNear i b label list (n + 1)
    near_next {n} u {near} so_far is count none = grind (arith, near_is)

  module _ (s : ℕ) where
    module _ (u t : ℕ) {label x : ℕ} where
      -- what the counts at one step say

      pub one_there : (near : ℕ) → x ≡ label → near ≡ marked i InNeighbourhood b u x → near ≢ 0 →
          FindsOne i b s u t label
      one_there near is count some = grind (arith, near_is)

      pub one_missing : (near : ℕ) → t ≡ s → x ≡ label → near ≡ marked i InNeighbourhood b u x → near ≡ 0 →
          FindsOne i b s u t label → ⊥
      one_missing near same is count none finds = grind (arith, near_is)

      pub one_left : (left : ℕ) → x ≡ label → left ≡ marked i InNeighbourhood b u x → 0 < left →
          LeavesOne i b s u t label
      one_left left is count some = grind (arith, near_is)

      pub none_behind : (near : ℕ) → x ≡ label → near ≡ marked i InNeighbourhood b s x → near ≤ 0 →
          LeavesOne i b s u t label
      none_behind near is count none = grind (arith, near_is)

      pub one_behind : (left near : ℕ) → t ≡ u → x ≡ label → left ≡ marked i InNeighbourhood b u x → left ≤ 0 →
          near ≡ marked i InNeighbourhood b s x → 0 < near → LeavesOne i b s u t label → ⊥
      one_behind left near same is left_is empty near_count some leaves = grind (arith, near_is)

    module _ (k p : ℕ) where
      near_unbroken : 0 < in_neighbourhood i b (need_of i s k) (neighbourhood_of i (machine_at b p)) →
          far_test i b s k p ≡ None
      unfolding far_test near_of
      near_unbroken some = grind (arith, held_if, ne_eqb)

      some_near : far_test i b s k p ≡ None →
          0 < in_neighbourhood i b (need_of i s k) (neighbourhood_of i (machine_at b p))
      unfolding far_test near_of
      some_near far = grind (arith, eqb-false, cause_none)

      -- and if none is far, each is near

      pair_met : pair_dependency i b s k ≡ None → p < process_count i → service_of i p ≡ s →
          HasNear i b (need_of i s k) (neighbourhood_of i (machine_at b p))
      unfolding pair_dependency dependency_test is_of
      pair_met none p_in of =
          let far : far_test i b s k p ≡ None = sym (cond-true _ (far_test i b s k p) None (eq-eqb _ _ of))
          ∙ (first_none_at p _ _ p_in none) in
          near_from_count i b _ _ (some_near far)

    pub none_behind_met : (k label : ℕ) → pair_dependency i b s k ≡ None →
        in_neighbourhood i b (need_of i s k) label ≡ 0 → in_neighbourhood i b s label ≡ 0
    none_behind_met k label met empty = grind (arith, near_from_count, count_from_near, pair_met)

  module _ (s p label : ℕ) where
    -- if no dependency is broken each process finds what its service needs

    pub needs_met : service_dependency i b s ≡ None → p < process_count i → service_of i p ≡ s →
        neighbourhood_of i (machine_at b p) ≡ label → FindsNeeds i b s label
    unfolding service_dependency
    needs_met none p_in of at = record {
      each = λ k k_in.
          rw at at (count_from_near i b _ _
          (pair_met s k p (first_none_at k _ _ k_in none) p_in of));
    }

    pub needs_found : broken_dependency i b ≡ None → s < service_count i → p < process_count i → service_of i p ≡ s →
        neighbourhood_of i (machine_at b p) ≡ label → FindsNeeds i b s label
    unfolding broken_dependency
    needs_found none s_in p_in of at =
        needs_met (first_none_at s _ _ s_in none) p_in of at

  module _ (s label : ℕ) where
    pub none_left : broken_dependency i b ≡ None → LeavesNone i b s label
    unfolding depends broken_dependency service_dependency
    none_left none = record {
      each = λ empty u u_in needs.
          let at = is_named_from _ _ s needs in
          none_behind_met u at.0 label (first_none_at at.0 _ _ at.1
          (first_none_at u _ _ u_in none)) (ap (λ t. in_neighbourhood i b t label) at.2 ∙ empty);
    }

    pub needs_all : (list : List Service) (n : ℕ) → AreDistinctNeedsOf i s list → n ≡ length list →
        NeedsFound i b list label n → FindsNeeds i b s label
    needs_all list n are all so_far = record {
      each = λ k within.
          let at = need_listed i s k list are within in
          subst (λ u. 0 < in_neighbourhood i b u label) at.2 (so_far.each at.0 (omega (arith, at.1)));
    }

    pub need_missing : (x : ℕ) (list : List Service) (need near : ℕ) → AreDistinctNeedsOf i s list → x < length list →
        need ≡ service_at list x → near ≡ marked i InNeighbourhood b need label → near ≡ 0 → FindsNeeds i b s label → ⊥
    need_missing x list need near are within is count none finds =
        let at = listed_need i s x list are within in
        let some : 0 < in_neighbourhood i b need label =
        subst (λ u. 0 < in_neighbourhood i b u label) (at.2 ∙ sym is) (finds.each at.0 at.1) in
        absurd (omega (arith, some, near_is i b need label count))

  module _ (s t : ℕ) where
    module _ (label : ℕ) {list : List Service} where
      pub alone_all : {n : ℕ} → t ≡ s → AreDependantsOf i t list → n ≡ length list → NoneNear i b label list n →
          LeavesNone i b s label
      unfolding is_dependant
      alone_all same are all so_far = grind (arith, dependant_place)

      pub alone_found : (k u left near : ℕ) → t ≡ s → AreDependantsOf i t list → k < length list →
          u ≡ service_at list k → left ≡ marked i InNeighbourhood b t label → left ≤ 0 →
          near ≡ marked i InNeighbourhood b u label → 0 < near → LeavesNone i b s label → ⊥
      unfolding is_dependant
      alone_found k u left near same are within is left_is empty near_count some leaves =
          let known : LeavesNone i b t label = rw same leaves in
          let at = dependant_at i t k list are within in
          let none : in_neighbourhood i b (service_at list k) label ≡ 0 =
          known.each (omega (arith, near_is i b t label left_is)) (service_at list k) at.0 at.1 in
          absurd (omega (arith, ap (λ v. in_neighbourhood i b v label) is, none, near_is i b u label near_count))

    pub not_alone : (label left : ℕ) → t ≡ s → left ≡ marked i InNeighbourhood b t label → 0 < left →
        LeavesNone i b s label
    not_alone label left same left_is some = grind (arith, near_is)

  -- one step after another

  pub keep_start : (steps : List Step) → KeepNear i b steps 0
  keep_start steps = grind arith

  pub keep_next : (steps : List Step) (n s to from : ℕ) → KeepNear i b steps n → service_in i steps n ≡ s →
      neighbourhood_of i (to_in steps n) ≡ to → neighbourhood_of i (from_in steps n) ≡ from → FindsNeeds i b s to →
      LeavesNone i b s from → KeepNear i b steps (n + 1)
  keep_next steps n s to from so_far s_is to_is from_is finds leaves = grind arith

module _ {i : Tables} (a0 : List Machine) where
  module _ {a : List Machine} {steps : List Step} where
    -- no process of a service is far from one that it stays near
    pub pair_stays : (s k : ℕ) → IsMove i a steps → Fine i a0 a → s < service_count i → k < dependency_count i s →
        StaysNear i (applied a steps) steps s (need_of i s k) (length steps) →
        pair_dependency i (applied a steps) s k ≡ None
    unfolding pair_dependency dependency_test
    pair_stays s k move fine s_in k_in stays =
        grind (arith, first_none_from, count_from_near, near_always, of_service_is, near_unbroken)

    pub near_all : (n : ℕ) → IsMove i a steps → Fine i a0 a → n ≡ length steps → KeepNear i (applied a steps) steps n →
        broken_dependency i (applied a steps) ≡ None
    near_all n move fine all keeps =
        dependency_unbroken i _
        (λ s k p s_in k_in p_in of. near_always i a0 a steps s k p move fine
        (stays_all i (applied a steps) steps s k (rw all at keeps) s_in k_in) s_in k_in p_in of)
