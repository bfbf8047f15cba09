-- The guards of a move are untouched exactly if the move is apart from all that was made since.
use Rattle.std.proofs.Common.{inl, inr, ◌≡◌, ℕ, suc, ◌+◌, ◌≤◌, true, false, List, Option, Some, None, refl, ap}
use Rattle.std.proofs.Common.{◌∙◌}
use Rattle.std.proofs.Common.{arith}
use Rattle.std.proofs.lemmas.Bool.{cases_lt, cond-true, cond-false, false_from_ne_true}
use Rattle.ra_base.specs.declared.ids.Guard.{Guard}
use Rattle.ra_base.proofs.Greatest.{greatest_at, greatest_least}
use Rattle.ra_model.specs.declared.raw.Tables.{Tables}
use Rattle.ra_moves.specs.declared.steps.Step.{Step}
use Rattle.ra_guards.specs.Guards.{writes, is_guard}
use Rattle.ra_guards.specs.Versions.{made_at, touches, stamp, version, Untouched, Apart, ApartSince}

module _ (i : Tables) where
  module _ (made : List (Option (List Step))) (g : Guard) (j : ℕ) where
    -- the stamp of a place: of one that touches the guard, of one that doesn't, and at most one more than the place

    pub stamp_touched : touches i (made_at made j) g ≡ true → stamp i made g j ≡ suc j
    unfolding stamp
    stamp_touched touched = cond-true _ _ 0 touched

    pub stamp_untouched : touches i (made_at made j) g ≡ false → stamp i made g j ≡ 0
    unfolding stamp
    stamp_untouched untouched = cond-false _ _ 0 untouched

    pub stamp_few : stamp i made g j ≤ suc j
    stamp_few = grind (arith, stamp_touched, stamp_untouched)

    pub touches_done : (others : List Step) → made_at made j ≡ Some others →
        touches i (made_at made j) g ≡ writes i others g
    unfolding touches
    touches_done others is = ap (λ (m : Option (List Step)). touches i m g) is

  -- what is made touches no guard if it is apart
  touches_apart : (steps : List Step) (g : Guard) (m : Option (List Step)) →
      ((others : List Step) → m ≡ Some others → Apart i steps others) → is_guard i steps g ≡ true →
      touches i m g ≡ false
  unfolding touches
  touches_apart steps g None apart guarded = refl
  touches_apart steps g (Some others) apart guarded = (apart others refl).each g guarded

  module _ (made : List (Option (List Step))) (q n : ℕ) (steps : List Step) where
    pub apart_from_untouched : Untouched i made q n steps → ApartSince i made q n steps
    unfolding version
    apart_from_untouched untouched = record {
      each = λ j others since within is. record {
        each = λ g guarded. false_from_ne_true (writes i others g) (λ written.
            let few = greatest_at n j (stamp i made g) within in
            absurd (omega (
              arith,
              few,
              untouched.each g guarded,
              stamp_touched made g j (touches_done made g j others is ∙ written),
            )));
      };
    }

    pub untouched_from_apart : ApartSince i made q n steps → Untouched i made q n steps
    unfolding version
    untouched_from_apart apart = record {
      each = λ g guarded. greatest_least n q _ (λ j within. elim (cases_lt j q) [
        | inl before ↦ omega (arith, stamp_few)
        | inr since ↦ omega (
          arith,
          stamp_untouched made g j
              (touches_apart steps g _ (λ others is. apart.each j others since within is)
              guarded),
        )
      ]);
    }

    -- for a loop over the places from q on

    pub since_more : ((others : List Step) → made_at made n ≡ Some others → Apart i steps others) →
        ApartSince i made q n steps → ApartSince i made q (n + 1) steps
    since_more here before = record {
      each = λ j others since within is. elim (cases_lt j n) [
        | inl earlier ↦ before.each j others since earlier is
        | inr later ↦ here others (ap (made_at made) (omega arith) ∙ is)
      ];
    }
