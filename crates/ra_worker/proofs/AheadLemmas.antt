-- The plans that a worker makes ahead: they are right as long as no move is done, and are handed in at the replica's
-- place.
use Rattle.std.proofs.Common.{◌≡◌, ℕ, zero, suc, ◌+◌, ◌<◌, ◌≤◌, Bool, true, false, List, slice_index_or, refl, sym, ap, ◌∙◌, subst, arith, ⊎_elim}
use Rattle.std.proofs.lemmas.Bool.{cases_lt}
use Rattle.ra_moves.specs.declared.verdicts.Plan.{Plan}
use Rattle.ra_worker.specs.Replicas.{Progress, budget_at, IsPlanAt, IsNextPlan, HasPassed}
use Rattle.ra_worker.specs.declared.ahead.Ahead.{Ahead}
use Rattle.ra_worker.proofs.OpeningLemmas.{passed_next}
use Rattle.ra_worker.specs.Ahead.{moved_to, ahead_at, HasAdded, HasPlaced, AreAhead, PlansStand}

module _ (r : Progress) where
  -- one plan more is made ahead
  pub ahead_added : (n k : ℕ) (before after : Ahead) (plan : Plan) → AreAhead r n before →
      HasAdded before after plan → before.made < 63 → k ≡ n + before.made → k < budget_at r → IsPlanAt r k plan →
      AreAhead r n after
  ahead_added n k before after plan are added few number left is = record {
    few = omega (arith, added.made, few);
    within = omega (arith, added.made, number, left);
    each = λ j d there. ⊎_elim
        (λ (low : j < before.made).
        subst (λ (p : Plan). IsPlanAt r (n + j) (moved_to r.place p)) (sym (added.others j d low)) (are.each j d low))
        (λ (high : before.made ≤ j).
        let last : j ≡ before.made = omega (arith, high, there, added.made) in
        let here : ahead_at after j d ≡ plan = rw last (added.last d) in
        let at : k ≡ n + j = omega (arith, number, last) in
        let moved : IsPlanAt r k (moved_to r.place plan) =
        record { place = refl; number = is.number; planned = is.planned; weighed = is.weighed } in
        subst (λ (p : Plan). IsPlanAt r (n + j) (moved_to r.place p)) (sym here)
        (subst (λ (m : ℕ). IsPlanAt r m (moved_to r.place plan)) at moved))
        (cases_lt j before.made);
  }

  -- one of the plans gets a place
  ahead_placed : (n : ℕ) (before after : Ahead) (place : ℕ) → AreAhead r n before →
      HasPlaced before after place → AreAhead r n after
  ahead_placed n before after place are placed =
      let kept : (j : ℕ) (d : Plan) → moved_to r.place (ahead_at after j d) ≡ moved_to r.place (ahead_at before j d) =
      λ j d.
      let other : (j + 1 ≡ before.at → ⊥) → moved_to r.place (ahead_at after j d) ≡ moved_to r.place (ahead_at before j d) =
      λ no. ap (moved_to r.place) (placed.others j d no) in
      ⊎_elim
      (λ (low : j + 1 < before.at). other (λ is. omega (arith, is, low)))
      (λ (high : before.at ≤ j + 1).
      ⊎_elim
      (λ (above : before.at < j + 1). other (λ is. omega (arith, is, above)))
      (λ (at : j + 1 ≤ before.at). ap (moved_to r.place) (placed.there j d (omega (arith, at, high))))
      (cases_lt before.at (j + 1)))
      (cases_lt (j + 1) before.at)
      in
      record {
        few = omega (arith, placed.made, are.few);
        within = omega (arith, placed.made, are.within);
        each = λ j d there.
            subst (λ (p : Plan). IsPlanAt r (n + j) p) (sym (kept j d)) (are.each j d (omega (arith, there, placed.made)));
      }

  ahead_same : (n : ℕ) (a b : Ahead) → AreAhead r n a → b.plans ≡ a.plans → b.made ≡ a.made → AreAhead r n b
  ahead_same n a b are plans made = record {
    few = omega (arith, are.few, made);
    within = omega (arith, are.within, made);
    each = λ j d there.
        subst (λ (ps : List Plan). IsPlanAt r (n + j) (moved_to r.place (slice_index_or ps j d))) (sym plans)
        (are.each j d (omega (arith, there, made)));
  }

  module _ (s : Progress) where
    module _ (to : ℕ) where
      -- they are right after entries were skipped
      plan_passed : (k : ℕ) (plan : Plan) → HasPassed r s to → IsPlanAt r k (moved_to r.place plan) →
          IsPlanAt s k (moved_to s.place plan)
      plan_passed k plan passed is = rw passed.passed (record {
        place = refl;
        number = is.number;
        planned = is.planned;
        weighed = is.weighed;
      })

      budget_passed : HasPassed r s to → budget_at s ≡ budget_at r
      budget_passed passed = ap (λ (p : Progress). budget_at p) passed.passed

      ahead_passed : (n : ℕ) (a : Ahead) → HasPassed r s to → AreAhead r n a → AreAhead s n a
      ahead_passed n a passed are = record {
        few = are.few;
        within = omega (arith, are.within, budget_passed passed);
        each = λ j d there. plan_passed (n + j) (ahead_at a j d) passed (are.each j d there);
      }

    -- after a quiet turn the rest of the round is right
    round_stands : (n place to : ℕ) (first : Plan) (a b c : Ahead) → PlansStand r n first a →
        HasPlaced a b place → HasPassed r s to → c.plans ≡ b.plans → c.made ≡ b.made → c.at ≡ b.at + 1 → PlansStand s n first c
    round_stands n place to first a b c stands placed passed plans made at = record {
      next = omega (arith, passed_next passed, stands.next, placed.at, at);
      fresh = λ none. absurd (omega (arith, none, at));
      later = ahead_passed to (n + 1) c passed
          (ahead_same (n + 1) b c (ahead_placed (n + 1) a b place stands.later placed) plans made);
    }

    -- the round is right after any turn, if a plan of it is left
    pub round_handed : (n place : ℕ) (quiet : Bool) (first : Plan) (a b c : Ahead) → PlansStand r n first a →
        HasPlaced a b place → (quiet ≡ true → HasPassed r s s.place) → c.plans ≡ b.plans → c.made ≡ b.made →
        (quiet ≡ true → c.at ≡ b.at + 1) → (quiet ≡ false → c.made < c.at) → c.at ≤ c.made → PlansStand s n first c
    round_handed n place true first a b c stands placed passed plans made next none left =
        round_stands n place s.place first a b c stands placed (passed refl) plans made (next refl)
    round_handed n place false first a b c stands placed passed plans made next none left =
        absurd (omega (arith, none refl, left))

  -- the next plan of a round that is right is the plan of the next proposal
  next_at_place : (n i : ℕ) (a b : Ahead) (first plan : Plan) → PlansStand r n first a → a.at ≡ i →
      a.at ≤ a.made → HasPlaced a b r.place → (b.at ≡ 0 → plan ≡ first) →
      ((j : ℕ) → j + 1 ≡ b.at → plan ≡ ahead_at b j plan) → IsNextPlan r plan
  next_at_place n zero a b first plan stands is within placed first_is later_is =
      subst (IsNextPlan r) (sym (first_is (placed.at ∙ is))) (stands.fresh is)
  next_at_place n (suc j) a b first plan stands is within placed first_is later_is =
      let at : j + 1 ≡ a.at = omega (arith, is) in
      let moved : plan ≡ moved_to r.place (ahead_at a j plan) =
      later_is j (omega (arith, at, placed.at)) ∙ placed.there j plan at in
      let number : n + 1 + j ≡ r.next = omega (arith, stands.next, is) in
      subst (λ (k : ℕ). IsPlanAt r k plan) number
      (subst (IsPlanAt r (n + 1 + j)) (sym moved) (stands.later.each j plan (omega (arith, within, is))))

  pub round_next : (n place : ℕ) (a b : Ahead) (first plan : Plan) → PlansStand r n first a → a.at ≤ a.made →
      place ≡ r.place → HasPlaced a b place → (b.at ≡ 0 → plan ≡ first) →
      ((j : ℕ) → j + 1 ≡ b.at → plan ≡ ahead_at b j plan) → IsNextPlan r plan
  round_next n place a b first plan stands within here placed first_is later_is =
      next_at_place n a.at a b first plan stands refl within (subst (HasPlaced a b) here placed) first_is later_is

  -- some budget is left for it
  pub round_left : (n : ℕ) (first : Plan) (a : Ahead) → PlansStand r n first a → a.at ≤ a.made →
      r.next < budget_at r
  round_left n first a stands within = omega (arith, stands.next, stands.later.within, within)
