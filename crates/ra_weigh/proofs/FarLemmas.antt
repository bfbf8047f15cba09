-- The first service that is far from what it needs: one that a step takes where it doesn't find it, or one that is left
-- alone where a step leaves.
use Rattle.std.proofs.Common.{inl, inr, ◌≡◌, ◌≢◌, ℕ, ◌+◌, ◌<◌, ◌≤◌, true, List, None, length, sym, ap, ◌∙◌, subst, arith}
use Rattle.std.proofs.lemmas.Bool.{cases_lt}
use Rattle.ra_base.specs.Searches.{first}
use Rattle.ra_base.specs.declared.ids.Machine.{Machine}
use Rattle.ra_base.specs.declared.ids.Service.{Service}
use Rattle.ra_base.proofs.Named.{is_named_at, is_named_from}
use Rattle.ra_base.proofs.Searches.{first_none_from, first_none_at}
use Rattle.ra_model.specs.declared.raw.Tables.{Tables}
use Rattle.ra_model.specs.Numbers.{service_count, dependency_count, neighbourhood_of}
use Rattle.ra_model.specs.Relations.{depends}
use Rattle.ra_model.specs.Services.{in_neighbourhood}
use Rattle.ra_model.specs.Broken.{pair_dependency, service_dependency}
use Rattle.ra_model.proofs.BrokenLemmas.{Fine}
use Rattle.ra_topology.specs.Lists.{service_at, is_dependant, AreDependantsOf}
use Rattle.ra_moves.specs.declared.steps.Step.{Step}
use Rattle.ra_moves.specs.Steps.{from_in, to_in}
use Rattle.ra_moves.specs.Replacing.{applied}
use Rattle.ra_moves.specs.Touched.{service_in}
use Rattle.ra_moves.specs.Moving.{IsMove}
use Rattle.ra_weigh.specs.declared.marks.Mark.TheVariants.{InNeighbourhood}
use Rattle.ra_weigh.specs.Marks.{marked}
use Rattle.ra_weigh.specs.Nearness.{FindsNeeds, LeavesBelow, LeavesAlone}
use Rattle.ra_weigh.proofs.TestLemmas.{near_is}
use Rattle.ra_weigh.proofs.NextLemmas.{ascends, dependant_place, dependant_at}
use Rattle.ra_weigh.proofs.NearLemmas.{pair_stays, none_behind_met, NoneNear}

-- one service

-- the first n steps spare service k: its processes find what it needs where they go, and none of it is left alone
pub record Spare (i : Tables) (b : List Machine) (steps : List Step) (n k : ℕ) : Type 0 where
  pub finds : (j : ℕ) → j < n → service_in i steps j ≡ k → FindsNeeds i b k (neighbourhood_of i (to_in steps j))
  pub leaves : (j : ℕ) → j < n → depends i k (service_in i steps j) ≡ true
      → in_neighbourhood i b (service_in i steps j) (neighbourhood_of i (from_in steps j)) ≡ 0
      → in_neighbourhood i b k (neighbourhood_of i (from_in steps j)) ≡ 0

-- the services before the first one so far

-- the first n steps spare each service before service m
pub record SpareBelow (i : Tables) (b : List Machine) (steps : List Step) (n m : ℕ) : Type 0 where
  pub each : (k : ℕ) → k < m → Spare i b steps n k

-- the first one so far is far from what it needs, if there is one
pub record FarAt (i : Tables) (b : List Machine) (m : ℕ) : Type 0 where
  pub far : m < service_count i → service_dependency i b m ≢ None

module _ {i : Tables} (a0 : List Machine) where
  module _ {a : List Machine} {steps : List Step} where
    -- a service that all steps spare stays near what it needs
    spared : (s : ℕ) → IsMove i a steps → Fine i a0 a → s < service_count i →
        Spare i (applied a steps) steps (length steps) s → service_dependency i (applied a steps) s ≡ None
    unfolding service_dependency depends
    spared s move fine s_in spare =
        first_none_from _ _ (λ k k_in.
        pair_stays a0 s k move fine s_in k_in (record {
          finds = λ j within. record { each = λ is. (spare.finds j within is).each k k_in };
          leaves = λ j within. record {
            each = λ is none.
                spare.leaves j within
                (is_named_at (dependency_count i s) k _ _ k_in (sym is))
                (ap (λ u. in_neighbourhood i (applied a steps) u (neighbourhood_of i (from_in steps j))) is ∙ none);
          };
        }))

    pub none_far : (n m : ℕ) → IsMove i a steps → Fine i a0 a → n ≡ length steps → m ≤ service_count i →
        SpareBelow i (applied a steps) steps n m → first m (service_dependency i (applied a steps)) ≡ None
    none_far n m move fine all within so_far = grind (arith, first_none_from, spared)

module _ (i : Tables) (b : List Machine) where
  module _ {steps : List Step} {n : ℕ} where
    spare_next : (k t to from : ℕ) → Spare i b steps n k → service_in i steps n ≡ t →
        neighbourhood_of i (to_in steps n) ≡ to → neighbourhood_of i (from_in steps n) ≡ from →
        (t ≡ k → FindsNeeds i b k to) →
        (depends i k t ≡ true → in_neighbourhood i b t from ≡ 0 → in_neighbourhood i b k from ≡ 0) →
        Spare i b steps (n + 1) k
    spare_next k t to from so_far t_is to_is from_is finds leaves = grind arith

    pub spare_more : (m new s to from : ℕ) → SpareBelow i b steps n m → new ≤ m → service_in i steps n ≡ s →
        neighbourhood_of i (to_in steps n) ≡ to → neighbourhood_of i (from_in steps n) ≡ from →
        (s < new → FindsNeeds i b s to) → LeavesBelow i b s from new → SpareBelow i b steps (n + 1) new
    spare_more m new s to from so_far near s_is to_is from_is finds leaves = record {
      each = λ k below. spare_next k s to from (so_far.each k (omega arith)) s_is to_is from_is
          (λ own. subst (λ u. FindsNeeds i b u to) own (finds (omega (arith, own, below))))
          (λ needs none. leaves.each none k below needs);
    }

  -- one that is nearer is
  pub far_more : {m : ℕ} (new : ℕ) → FarAt i b m → new ≤ m → (new < m → service_dependency i b new ≢ None) →
      FarAt i b new
  far_more {m} new so_far near nearer = grind arith

  module _ (s label : ℕ) where
    -- a service that is left alone is far from what it needs
    pub alone_far : (u : ℕ) → LeavesAlone i b s label u → service_dependency i b u ≢ None
    unfolding service_dependency depends
    alone_far u alone none =
        let at = is_named_from _ _ s alone.needs in
        let met : pair_dependency i b u at.0 ≡ None =
        first_none_at at.0 _ _ at.1 none in
        absurd (omega (
          arith,
          alone.some,
          none_behind_met i b u at.0 label met (ap (λ t. in_neighbourhood i b t label) at.2 ∙ alone.none),
        ))

    -- the dependants of a service where a process of it leaves

    pub some_left : (left n : ℕ) → left ≡ marked i InNeighbourhood b s label → 0 < left → LeavesBelow i b s label n
    some_left left n count some = grind (arith, near_is)

    module _ (m : ℕ) {k : ℕ} {list : List Service} (are : AreDependantsOf i s list) (within : m ≤ service_count i) where
      -- none comes before one that is after those so far
      pub none_before : k < length list → m ≤ service_at list k → NoneNear i b label list k → LeavesBelow i b s label m
      unfolding is_dependant
      none_before k_in behind so_far = record {
        each = λ empty u below needs.
            let at = dependant_place i u are (omega arith) needs in
            elim (cases_lt at.0 k) [
              | inl before ↦ ap (λ v. in_neighbourhood i b v label) (sym at.2) ∙ so_far.each at.0 before
              | inr after ↦ absurd (omega (arith, ascends i s k at.0 list are after at.1, at.2))
            ];
      }

      -- nor any, if none of all is there
      pub none_there : k ≡ length list → NoneNear i b label list k → LeavesBelow i b s label m
      unfolding is_dependant
      none_there all so_far = grind (arith, dependant_place)

    pub left_alone_there : (k left near : ℕ) (list : List Service) → AreDependantsOf i s list → k < length list →
        left ≡ marked i InNeighbourhood b s label → left ≤ 0 →
        near ≡ marked i InNeighbourhood b (service_at list k) label → 0 < near →
        LeavesAlone i b s label (service_at list k)
    unfolding is_dependant
    left_alone_there k left near list are k_in left_is empty near_count some = grind (arith, dependant_at, near_is)
