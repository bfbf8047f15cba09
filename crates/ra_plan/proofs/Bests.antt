-- The best option so far, one option after another.
use Rattle.std.proofs.Common.{◌≡◌, ◌≢◌, ◌↔◌, ℕ, ◌+◌, ◌^◌, ◌<◌, ◌≤◌, arith, Bool, true, false, cond, ltb, List}
use Rattle.std.proofs.Common.{[], ◌∷◌, Option, Some, None, refl, sym, ap, ◌∙◌, subst}
use Rattle.std.specs.Option.{is_some, IfSome}
use Rattle.std.proofs.lemmas.Bool.{ltb-true, ltb-false}
use Rattle.ra_base.specs.Searches.{is_better, least, least_place, or_else}
use Rattle.ra_base.specs.declared.causes.Cause.{Cause}
use Rattle.ra_base.specs.declared.causes.Drawing.{Drawing}
use Rattle.ra_base.specs.declared.causes.Drawing.TheVariants.{Two}
use Rattle.ra_base.specs.declared.ids.Machine.{Machine}
use Rattle.ra_base.proofs.Least.{least_none, least_place_none, least_more, least_place_more}
use Rattle.ra_base.proofs.Least.{least_means, is_better_none, is_better_some}
use Rattle.ra_model.specs.declared.raw.Tables.{Tables}
use Rattle.ra_model.specs.Numbers.{machine_count}
use Rattle.ra_model.specs.Limits.{WellFormed}
use Rattle.ra_model.specs.Assignments.{IsAssignment}
use Rattle.ra_moves.specs.declared.steps.Step.{Step}
use Rattle.ra_moves.specs.declared.verdicts.Verdict.{Verdict}
use Rattle.ra_moves.specs.declared.verdicts.Weighed.{Weighed}
use Rattle.ra_moves.specs.declared.verdicts.Verdict.TheVariants.{Done, Refused}
use Rattle.ra_model.specs.Broken.{cause_if}
use Rattle.ra_model.specs.Situations.{Situation, cost_at, IsSound}
use Rattle.ra_model.proofs.BoundLemmas.{objective_under}
use Rattle.ra_model.proofs.BrokenLemmas.{cause_free}
use Rattle.ra_moves.specs.Judging.{judge, broken_by, rise_test, verdict_of, IsMoveBelow}
use Rattle.ra_moves.proofs.Repeats.{distinct_from_none}
use Rattle.ra_moves.proofs.OptionLemmas.{option_stands, option_reaches}
use Rattle.ra_moves.specs.Moving.{IsOffered}
use Rattle.ra_moves.specs.MoveSteps.{MoveSteps}
use Rattle.ra_moves.specs.declared.steps.MoveKind.TheVariants.{Shift}
use Rattle.ra_moves.specs.Options.{kind_of, option_count, drawn, target, leaving, option_at, option_cost, done_cost}
use Rattle.ra_moves.specs.Options.{plan_place, plan_of}
use Rattle.ra_moves.specs.Replacing.{after_move}
use Rattle.ra_plan.specs.Choosing.{IsBest, cost_in, steps_in, cost_to_beat}
use Rattle.ra_plan.specs.Deciding.{IsPlanned}
use Rattle.ra_plan.specs.declared.best.Best.{Best}
use Rattle.ra_plan.proofs.OptionSizes.{option_few, option_some, shift_steps, least_place_below}

true_is_not : true ≡ false → ⊥
true_is_not is = absurd (cc is)

pub machines_of : {m : ℕ} {i j : Tables} → m ≡ machine_count i → i ≡ j → m ≡ machine_count j
machines_of is same = is ∙ ap (λ (t : Tables). machine_count t) same

-- an option that breaks something isn't done
refused_cost : (cause : Option Cause) (rise : Option Cause) (after : ℕ) → cause ≢ None →
    done_cost (verdict_of (or_else cause rise) after) ≡ None
unfolding or_else verdict_of done_cost
refused_cost None rise after there = absurd (there refl)
refused_cost (Some cause) rise after there = refl

-- every option of an assignment can be weighed
pub option_offered : {i : Tables} {a : List Machine} (x : List ℕ) (d : Drawing) (k : ℕ) → WellFormed i →
    IsAssignment i a → IsOffered i a (option_at a x (machine_count i) d k).steps
option_offered {i} {a} x d k formed fits once = grind (arith, option_stands, distinct_from_none, option_few, option_reaches)

module _ (w : Situation) (x : List ℕ) (d : Drawing) (m k : ℕ) where
  -- what is resolved over m machines is the option
  pub option_in : (mv : MoveSteps) → m ≡ machine_count w.tables → mv ≡ option_at w.here x m d k →
      steps_in w x d k ≡ mv.steps
  unfolding steps_in
  option_in mv machines is = ap (λ (v : MoveSteps). v.steps) (sym (rw machines at is))

  pub shift_in : {p to : ℕ} → m ≡ machine_count w.tables → kind_of x ≡ Shift → p ≡ drawn w.here x 1 →
      to ≡ target d x m k → steps_in w x d k ≡ leaving w.here p to ∷ []
  unfolding steps_in
  shift_in {p} {to} machines is process machine = shift_steps _ x _ d k p to is process (rw machines at machine)

-- what it says of a verdict that it has a cost, and when it has one
by_test : (test : Bool) (cause : Cause) (after cost : ℕ) → done_cost (verdict_of (cause_if test cause) after) ≡
    Some cost → (test ≡ false) × (cost ≡ after)
unfolding done_cost verdict_of cause_if
by_test true cause after cost is = absurd (cc)
by_test false cause after cost is = let same : after ≡ cost = cc in (refl, sym same)

by_cause : (broken : Option Cause) (before after allowed cost : ℕ) →
    done_cost (verdict_of (or_else broken (rise_test before after allowed)) after) ≡ Some cost → (broken ≡ None)
    × (cost ≡ after) × (cost ≤ before + allowed)
unfolding done_cost verdict_of or_else rise_test
by_cause None before after allowed cost is =
    let found = by_test (ltb (before + allowed) after) _ after cost is in
    (refl, found.1, omega (arith, found.1, ltb-false (before + allowed) after found.0))
by_cause (Some cause) before after allowed cost is = absurd (cc)

module _ (x y : ℕ) where
  not_above : (t : Bool) → ltb x y ≡ t → y ≤ x → t ≡ false
  not_above true is low = absurd (omega (arith, ltb-true x y is, low))
  not_above false is low = refl

  is_above : (t : Bool) → ltb x y ≡ t → x < y → t ≡ true
  is_above true is high = refl
  is_above false is high = absurd (omega (arith, ltb-false x y is, high))

done_within : (before after allowed : ℕ) → after ≤ before + allowed →
    done_cost (verdict_of (or_else None (rise_test before after allowed)) after) ≡ Some after
unfolding done_cost verdict_of or_else rise_test
done_within before after allowed low = grind (arith, cause_free, not_above)

-- bounds
bound_low : (o : Option ℕ) (most : ℕ) → ((b : ℕ) → o ≡ Some b → b < most) → cost_to_beat o most ≤ most
unfolding cost_to_beat
bound_low None most low = omega arith
bound_low (Some b) most low = omega (arith, low b refl)

module _ (w : Situation) (x : List ℕ) (d : Drawing) (allowed : ℕ) where
  -- no option so far
  pub best_none : (best : Best) → best.cost ≡ None → best.option ≡ 0 → IsBest w x d allowed 0 best
  best_none best cost option = grind (arith, least_none, least_place_none)

  module _ (n : ℕ) where
    -- the cost of an option from the verdict on it
    cost_of : (verdict : Verdict) → verdict ≡ judge w (steps_in w x d n) allowed →
        cost_in w x d allowed n ≡ done_cost verdict
    unfolding cost_in option_cost steps_in
    cost_of verdict is = ap done_cost (sym is)

    -- one that is done at a lower cost is the best from then on
    pub best_done : (cost : ℕ) (best : Best) → IsBest w x d allowed n best → Done cost ≡ judge w
        (steps_in w x d n) allowed → IsBest w x d allowed (n + 1)
        (cond (is_better (Some cost) best.cost) (record { cost = Some cost; option = n }) best)
    unfolding done_cost
    best_done cost best is verdict =
        let f : ℕ → Option ℕ = cost_in w x d allowed in
        by_test (is_better (Some cost) best.cost) (ap (λ (c : Option ℕ). is_better (Some cost) c) is.cost
        ∙ ap (λ (c : Option ℕ). is_better c (least n f)) (sym (cost_of _ verdict)))
      where
        by_test : (better : Bool) → better ≡ is_better (cost_in w x d allowed n) (least n (cost_in w x d allowed)) →
            IsBest w x d allowed (n + 1) (cond better (record { cost = Some cost; option = n }) best)
        by_test true better =
            let f : ℕ → Option ℕ = cost_in w x d allowed in
            record {
              cost = sym (cost_of _ verdict)
                  ∙ sym (least_more n f ∙ ap (λ (b : Bool). cond b (f n) (least n f)) (sym better));
              option = sym (least_place_more n f ∙ ap (λ (b : Bool). cond b n (least_place n f)) (sym better));
            }
        by_test false better =
            let f : ℕ → Option ℕ = cost_in w x d allowed in
            record {
              cost = is.cost ∙ sym (least_more n f ∙ ap (λ (b : Bool). cond b (f n) (least n f)) (sym better));
              option = is.option
                  ∙ sym (least_place_more n f ∙ ap (λ (b : Bool). cond b n (least_place n f)) (sym better));
            }

    pub broken_cost : broken_by w (steps_in w x d n) ≢ None → cost_in w x d allowed n ≡ None
    unfolding cost_in option_cost steps_in judge
    broken_cost broken = refused_cost _ _ _ broken

    -- what is told of the steps of an option is told of the option
    pub judged_in : (steps : List Step) (verdict : Verdict) → steps_in w x d n ≡ steps → verdict ≡ judge w steps
        allowed → verdict ≡ judge w (steps_in w x d n) allowed
    judged_in steps verdict same is = rw same is

  -- the best of all options is the plan
  pub best_planned : (m : ℕ) {best : Best} (mv : MoveSteps) → m ≡ machine_count w.tables →
      IsBest w x d allowed (option_count x (machine_count w.tables) d) best → mv ≡ option_at w.here x m d best.option →
      mv ≡ plan_of w x d allowed
  unfolding plan_of plan_place cost_in
  best_planned m mv machines is option = rw (machines, is.option) at option

  -- a plan of a move is one of the same move
  pub planned_same : (mv same : MoveSteps) (weighed : Weighed) → mv ≡ same → IsPlanned w x d allowed same weighed →
      IsPlanned w x d allowed mv weighed
  planned_same mv same weighed is planned =
      subst (λ (m : MoveSteps). IsPlanned w x d allowed m weighed) (sym is) planned

  -- and it is one of them
  pub best_below : (m : ℕ) (best : Best) → m ≡ machine_count w.tables → 1 ≤ m →
      IsBest w x d allowed (option_count x (machine_count w.tables) d) best → best.option < option_count x m d
  best_below m best machines some is = grind (arith, least_place_below, option_some)

  -- an option with a cost breaks nothing, and the cost is that after it and rises by no more than is allowed
  pub cost_means : (n cost : ℕ) (steps : List Step) → steps_in w x d n ≡ steps → cost_in w x d allowed n ≡ Some cost →
      (broken_by w steps ≡ None) × (cost ≡ cost_at (after_move w steps)) × (cost ≤ cost_at w + allowed)
  unfolding cost_in option_cost steps_in judge
  cost_means n cost steps same is = grind (arith, by_cause)

  module _ (n : ℕ) where
    -- and one that does so has that cost
    pub cost_comes : (steps : List Step) → steps_in w x d n ≡ steps → broken_by w steps ≡ None →
        cost_at (after_move w steps) ≤ cost_at w + allowed →
        cost_in w x d allowed n ≡ Some (cost_at (after_move w steps))
    unfolding cost_in option_cost steps_in judge
    cost_comes steps same none low = grind (arith, done_within)

    module _ (cost : ℕ) (best : Best) (steps : List Step) (is : IsBest w x d allowed n best)
        (same : steps_in w x d best.option ≡ steps) (there : best.cost ≡ Some cost) where
      -- the best so far is one of them
      pub best_means : (broken_by w steps ≡ None)
          × (cost ≡ cost_at (after_move w steps))
          × (cost ≤ cost_at w + allowed)
      best_means =
          let found = least_means n cost _ (sym is.cost ∙ there) in
          cost_means best.option cost steps same
          (ap (cost_in w x d allowed) is.option ∙ found.answer)

      pub best_unbroken : broken_by w steps ≡ None
      best_unbroken =
          (best_means).0

    module _ (best : Best) where
      -- an option that isn't done changes nothing
      pub best_skipped : IsBest w x d allowed n best → cost_in w x d allowed n ≡ None →
          IsBest w x d allowed (n + 1) best
      best_skipped is none = grind (arith, is_better_none, least_more, least_place_more)

      pub best_refused : (cause : Cause) → IsBest w x d allowed n best → Refused cause ≡ judge w
          (steps_in w x d n) allowed → IsBest w x d allowed (n + 1) best
      unfolding done_cost
      best_refused cause is verdict =
          best_skipped is (cost_of n _ verdict)

      -- an option that a test has found broken leaves the best one as it is
      pub best_broken : (steps : List Step) (unbroken : Bool) → (unbroken ≡ true) ↔ (broken_by w steps ≡ None) →
          unbroken ≡ false → IsBest w x d allowed n best → steps_in w x d n ≡ steps → IsBest w x d allowed (n + 1) best
      best_broken steps unbroken (gives, back) unfit is same = grind (arith, best_skipped, broken_cost, true_is_not)

      pub best_free : (steps : List Step) → IsBest w x d allowed n best → steps_in w x d best.option ≡ steps →
          is_some best.cost ≡ true → broken_by w steps ≡ None
      best_free steps is same some = by_cost best.cost refl some
        where
          by_cost : (o : Option ℕ) → best.cost ≡ o → is_some o ≡ true →
              broken_by w steps ≡ None
          by_cost None e there = absurd (omega (arith, ap (λ (b : Bool). cond {A = ℕ} b 1 0) there))
          by_cost (Some cost) e there = best_unbroken cost best steps is same e

      pub best_within : IsBest w x d allowed n best →
          cost_to_beat best.cost (cost_at w + allowed + 1) ≤ cost_at w + allowed + 1
      best_within is =
          bound_low best.cost (cost_at w + allowed + 1)
          (λ b there. omega (
            arith,
            (best_means b best (steps_in w x d best.option) is refl
                there).2,
          ))

    pub bound_fits : (most : ℕ) (best : Best) → IsSound w → IsBest w x d allowed n best →
        most ≡ cost_at w + allowed + 1 → allowed < 2 ^ 64 → cost_to_beat best.cost most ≤ 2 ^ 120
    bound_fits most best sound is most_is few = grind (arith, best_within, objective_under)

-- an option without a cost below the bound changes nothing
pub worse_at : (here least : Option ℕ) (most : ℕ) →
    ((c : ℕ) → here ≡ Some c → (cost_to_beat least most ≤ c) × (c < most)) → is_better here least ≡ false
unfolding cost_to_beat
worse_at None least most above = is_better_none least
worse_at (Some c) None most above = absurd (omega (arith, (above c refl).0, (above c refl).1))
worse_at (Some c) (Some b) most above = is_better_some c b ∙ not_above c b (ltb c b) refl (above c refl).0

pub better_at : (least : Option ℕ) (c most : ℕ) → c < cost_to_beat least most → is_better (Some c) least ≡ true
unfolding cost_to_beat is_better
better_at None c most below = refl
better_at (Some b) c most below = is_above c b _ refl below

-- a cost that was found is the next bound, and lower than the one before
pub bound_falls : (w : Situation) (steps : List Step) (most cost : ℕ) (least found : Option ℕ) →
    IsMoveBelow w steps (cost_to_beat least most) found → found ≡ Some cost →
    cost_to_beat found most ≤ cost_to_beat least most
unfolding cost_to_beat
bound_falls w steps most cost least found below some =
    let low = below.below cost some in
    rw some (omega (arith, low))

none_at : (o : Option ℕ) (most : ℕ) → o ≡ None → cost_to_beat o most ≤ most
unfolding cost_to_beat
none_at o most none = rw none (omega arith)

pub none_bound : (w : Situation) (best : Best) (most : ℕ) → IsBest w [] Two 0 0 best →
    cost_to_beat best.cost most ≡ most
unfolding cost_to_beat
none_bound w best most is = ap (λ c. cost_to_beat c most) (is.cost ∙ least_none (cost_in w [] Two 0))

module _ {found : Option ℕ} (cost : Option ℕ) (most : ℕ) where
  -- a cost that was found is what the next one has to beat, and else it is as before
  pub beat_found : (x : ℕ) → found ≡ Some x → cost_to_beat found most ≡ cost_to_beat found (cost_to_beat cost most)
  unfolding cost_to_beat
  beat_found x is = rw is refl

  pub beat_before : found ≡ None → cost_to_beat cost most ≡ cost_to_beat found (cost_to_beat cost most)
  unfolding cost_to_beat
  beat_before is = rw is refl

pub found_at_most : (found : Option ℕ) (n : ℕ) → ((cost : ℕ) → found ≡ Some cost → cost ≤ n) →
    IfSome found (λ cost. cost ≤ n)
found_at_most (Some cost) n low = low cost refl
found_at_most None n low = tt

pub none_low : (w : Situation) (best : Best) (most : ℕ) → IsBest w [] Two 0 0 best → cost_to_beat best.cost most ≤ most
none_low w best most is = none_at best.cost most (is.cost ∙ least_none (cost_in w [] Two 0))
