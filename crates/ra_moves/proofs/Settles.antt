-- What settling a weighed move gives: the cost after it if nothing is broken, and else the cost before it.
use Rattle.std.proofs.Common.{◌≡◌, ℕ, ◌*◌, ◌^◌, ◌<◌, pos, List, length, get_or, Option, Some, None, refl, sym, ap, ap₂, ◌∙◌, arith}
use Rattle.std.specs.Prelude.{IfSome, ◌-ℤ◌}
use Rattle.std.proofs.lemmas.Int.{ints}
use Rattle.ra_base.specs.Searches.{or_else}
use Rattle.ra_base.specs.Sums.{greatest}
use Rattle.ra_base.specs.declared.causes.Cause.{Cause}
use Rattle.ra_base.specs.declared.ids.Machine.{Machine}
use Rattle.ra_base.proofs.Searches.{left_none}
use Rattle.ra_base.proofs.Greatest.{greatest_same}
use Rattle.ra_model.specs.Numbers.{service_count, service_weight_of}
use Rattle.ra_model.specs.Limits.{WellFormed, Small}
use Rattle.ra_model.specs.Costs.{service_cost, objective}
use Rattle.ra_model.specs.Situations.{Situation, cost_at, moved_at}
use Rattle.ra_moves.specs.Replacing.{after_move, applied}
use Rattle.ra_model.proofs.BoundLemmas.{objective_under}
use Rattle.ra_cells.specs.MovedCounts.{MovedCounts}
use Rattle.ra_cells.specs.Replaced.{counted_after, greatest_with, IsChange, AreOfDifferentServices}
use Rattle.ra_moves.specs.declared.steps.Step.{Step}
use Rattle.ra_moves.specs.declared.verdicts.Verdict.TheVariants.{Refused}
use Rattle.ra_moves.specs.declared.verdicts.Weighed.{Weighed}
use Rattle.ra_moves.specs.Judging.{repeat_of, broken_by, rise_test, verdict_of, judge}
use Rattle.ra_moves.specs.Settling.{settled_cost}
use Rattle.ra_moves.specs.Moving.{IsMove}
use Rattle.ra_moves.specs.Weighing.{local_cost, local_change, changed_count, weighed_by, weighed_of}
use Rattle.ra_moves.specs.SettledNow.{AreMovedOf, IsSettling}
use Rattle.ra_moves.proofs.MovedAfter.{count_changes, counts_apart, greatest_after_move}

-- the counts of a weighing are changes of the moved counts, of different services
pub record AreChanges (moved : MovedCounts) (weighed : Weighed) : Type 0 where
  pub first : IfSome weighed.first (λ c. IsChange moved c)
  pub second : IfSome weighed.second (λ c. IsChange moved c)
  pub third : IfSome weighed.third (λ c. IsChange moved c)
  pub first_second : AreOfDifferentServices weighed.first weighed.second
  pub first_third : AreOfDifferentServices weighed.first weighed.third
  pub second_third : AreOfDifferentServices weighed.second weighed.third

-- the settled cost is a number below 2^114, and gives the verdict of the judge
pub record AreSettled (st : Situation) (steps : List Step) (kept now after weight : ℕ)
    (weighed : Weighed) : Type 0 where
  pub cost : ℕ
  pub is : settled_cost kept now after weight weighed.local ≡ pos cost
  pub small : cost < 2 ^ 114
  pub judged : (allowed : ℕ) → verdict_of (or_else weighed.broken (rise_test kept cost allowed)) cost ≡
      judge st steps allowed

-- the cost after a move, from what changes
whole_cost : (st : Situation) (b : List Machine) (kept now after weight : ℕ) → kept ≡ cost_at st →
    weight ≡ service_weight_of st.tables → now ≡ greatest (service_count st.tables) (moved_at st) →
    after ≡ greatest (service_count st.tables) (moved_at (record st { here = b })) →
    settled_cost kept now after weight (pos (local_cost (record st { here = b })) -ℤ pos (local_cost st))
    ≡ pos (cost_at (record st { here = b }))
unfolding settled_cost objective local_cost service_cost
whole_cost st b kept now after weight cost weighs is_now is_after =
    let before =
    ap₂ (λ w m. w * m) weighs is_now in
    let behind =
    ap₂ (λ w m. w * m) weighs is_after in
    omega (arith, ints)

bare_cost : (kept now after weight : ℕ) → now ≡ after → settled_cost kept now after weight (pos 0) ≡ pos kept
unfolding settled_cost
bare_cost kept now after weight same =
    let same_product : weight * now ≡ weight * after = rw same in omega (arith, ints)

now_is : (st : Situation) (moved : MovedCounts) (now : ℕ) → AreMovedOf st moved → now ≡ greatest (length moved.counts)
    (λ s. get_or moved.counts s 0) → now ≡ greatest (service_count st.tables) (moved_at st)
now_is st moved now counts is = is ∙ ap (λ n. greatest n (λ s. get_or moved.counts s 0)) counts.one_each
    ∙ greatest_same (service_count st.tables) (λ s. get_or moved.counts s 0) (moved_at st) counts.each

with_none : (counts : List ℕ) → greatest_with counts None None None ≡ greatest (length counts) (λ s. get_or counts s 0)
unfolding greatest_with counted_after
with_none counts = refl

module _ (st : Situation) (steps : List Step) where
  -- a weighing in which nothing is broken, and one that has a cause
  pub whole_is : broken_by st steps ≡ None → weighed_of st steps ≡ record {
    broken = None;
    local = local_change st steps;
    first = changed_count st steps 0;
    second = changed_count st steps 1;
    third = changed_count st steps 2;
  }
  unfolding weighed_of weighed_by
  whole_is none = rw none refl

  pub bare_is : (cause : Cause) → broken_by st steps ≡ Some cause → weighed_of st steps ≡ record {
    broken = Some cause;
    local = pos 0;
    first = None;
    second = None;
    third = None;
  }
  unfolding weighed_of weighed_by
  bare_is cause some = rw some refl

  judged_whole : (kept allowed : ℕ) → broken_by st steps ≡ None → kept ≡ cost_at st →
      verdict_of (or_else None (rise_test kept (cost_at (after_move st steps)) allowed))
      (cost_at (after_move st steps)) ≡ judge st steps allowed
  unfolding judge
  judged_whole kept allowed none cost = rw (none, cost) refl

  judged_broken : (kept allowed : ℕ) (cause : Cause) → broken_by st steps ≡ Some cause →
      verdict_of (or_else (Some cause) (rise_test kept kept allowed)) kept ≡ judge st steps allowed
  unfolding judge or_else verdict_of
  judged_broken kept allowed cause some = rw some refl

  -- a weighing with a cause is refused for it, whatever the counts and the cost
  broken_is : (broken : Option Cause) → broken_by st steps ≡ broken → (weighed_of st steps).broken ≡ broken
  broken_is None none = ap (λ w. w.broken) (whole_is none)
  broken_is (Some cause) some = ap (λ w. w.broken) (bare_is cause some)

  judge_refuses : (allowed : ℕ) (cause : Cause) →
      broken_by st steps ≡ Some cause → Refused cause ≡ judge st steps allowed
  unfolding judge or_else verdict_of
  judge_refuses allowed cause some = rw some refl

  module _ (moved : MovedCounts) (kept : ℕ) where
    module _ (weighed : Weighed) where
      -- a move without a broken cause names no process twice
      unbroken_move : IsSettling st steps moved kept weighed → broken_by st steps ≡ None →
          IsMove st.tables st.here steps
      unfolding broken_by
      unbroken_move settling none = settling.moves (left_none (repeat_of steps) _ none)

      changes_by : (broken : Option Cause) → WellFormed st.tables → IsSettling st steps moved kept weighed →
          broken_by st steps ≡ broken → AreChanges moved weighed
      changes_by None limits settling none =
          let is = unbroken_move settling none in
          rw (settling.weighing, whole_is none) (record {
            first = count_changes st steps moved 0 limits is settling.counts;
            second = count_changes st steps moved 1 limits is settling.counts;
            third = count_changes st steps moved 2 limits is settling.counts;
            first_second = counts_apart st steps 0 1 (omega arith);
            first_third = counts_apart st steps 0 2 (omega arith);
            second_third = counts_apart st steps 1 2 (omega arith);
          })
      changes_by (Some cause) limits settling some =
          rw (settling.weighing, bare_is cause some) (record {
            first = tt;
            second = tt;
            third = tt;
            first_second = tt;
            first_third = tt;
            second_third = tt;
          })

      pub changes : WellFormed st.tables → IsSettling st steps moved kept weighed → AreChanges moved weighed
      changes limits settling =
          changes_by (broken_by st steps) limits settling refl

    module _ (now after weight : ℕ) (weighed : Weighed) where
      settles_by : (broken : Option Cause) → WellFormed st.tables → Small st.tables →
          IsSettling st steps moved kept weighed → broken_by st steps ≡ broken → now ≡ greatest (length moved.counts)
          (λ s. get_or moved.counts s 0) →
          after ≡ greatest_with moved.counts weighed.first weighed.second weighed.third →
          weight ≡ service_weight_of st.tables → AreSettled st steps kept now after weight weighed
      unfolding local_change
      settles_by None limits small settling none is_now is_after weighs =
          let whole = settling.weighing ∙ whole_is none in
          let is = unbroken_move weighed settling none in
          let after_is = is_after ∙ ap (λ (w : Weighed). greatest_with moved.counts w.first w.second w.third) whole
          ∙ greatest_after_move st steps moved is settling.counts in
          record {
            cost = cost_at (after_move st steps);
            is = ap (λ (w : Weighed). settled_cost kept now after weight w.local) whole
                ∙ whole_cost st (applied st.here steps) kept now after weight settling.cost weighs
                (now_is st moved now settling.counts is_now) after_is;
            small = objective_under st.tables st.start (applied st.here steps) limits small;
            judged = λ allowed.
                ap (λ (w : Weighed). verdict_of (or_else w.broken
                (rise_test kept (cost_at (after_move st steps)) allowed))
                (cost_at (after_move st steps))) whole ∙ judged_whole kept allowed none settling.cost;
          }
      settles_by (Some cause) limits small settling some is_now is_after
          weighs =
          let bare = settling.weighing ∙ bare_is cause some in
          let after_is = is_after ∙ ap (λ (w : Weighed). greatest_with moved.counts w.first w.second w.third) bare
          ∙ with_none moved.counts in
          record {
            cost = kept;
            is = ap (λ (w : Weighed). settled_cost kept now after weight w.local) bare
                ∙ bare_cost kept now after weight (is_now ∙ sym after_is);
            small = omega (arith, settling.cost, objective_under st.tables st.start st.here limits small);
            judged = λ allowed. ap (λ (w : Weighed). verdict_of (or_else w.broken (rise_test kept kept allowed)) kept)
                bare
                ∙ judged_broken kept allowed cause some;
          }

      pub settles : WellFormed st.tables → Small st.tables → IsSettling st steps moved kept weighed →
          now ≡ greatest (length moved.counts) (λ s. get_or moved.counts s 0) →
          after ≡ greatest_with moved.counts weighed.first weighed.second weighed.third →
          weight ≡ service_weight_of st.tables → AreSettled st steps kept now after weight weighed
      settles limits small settling is_now is_after weighs =
          settles_by (broken_by st steps) limits small settling refl
          is_now is_after weighs

    pub refuses : (allowed : ℕ) (weighed : Weighed) (cause : Cause) → IsSettling st steps moved kept weighed →
        weighed.broken ≡ Some cause → Refused cause ≡ judge st steps allowed
    refuses allowed weighed cause settling is =
        judge_refuses allowed cause (sym (broken_is (broken_by st steps) refl)
        ∙ ap (λ w. w.broken) (sym settling.weighing) ∙ is)
