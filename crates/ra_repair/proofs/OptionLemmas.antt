-- The choice of an option.
use Rattle.std.proofs.Common.{inl, inr, ◌≡◌, ℕ, ◌+◌, false, cond, List, Option, Some, None, sym, refl, ap}
use Rattle.std.proofs.Common.{◌∙◌, subst}
use Rattle.std.proofs.lemmas.Bool.{cases_Bool}
use Rattle.ra_base.specs.Searches.{or_else, is_better, least, least_place}
use Rattle.ra_base.specs.declared.causes.Cause.{Cause}
use Rattle.ra_base.specs.declared.ids.Machine.{Machine}
use Rattle.ra_base.proofs.Least.{least_none, least_place_none, least_better, least_kept}
use Rattle.ra_model.specs.declared.raw.Tables.{Tables}
use Rattle.ra_moves.specs.MoveSteps.{MoveSteps}
use Rattle.ra_moves.specs.Options.{option_count}
use Rattle.ra_base.specs.declared.causes.Drawing.TheVariants.{Two}
use Rattle.ra_model.specs.Numbers.{machine_count}
use Rattle.ra_moves.specs.declared.steps.Step.{Step}
use Rattle.ra_moves.specs.Judging.{repeat_of, same_of}
use Rattle.ra_moves.specs.Replacing.{applied}
use Rattle.ra_repair.specs.declared.options.Choice.{Choice}
use Rattle.ra_repair.specs.Penalty.{penalty}
use Rattle.ra_repair.specs.Runs.{unless, penalty_by, try_count, try_option, option_penalty, chosen, least_after}

module _ (i : Tables) (a0 : List Machine) where
  module _ (a : List Machine) (steps : List Step) where
    -- a move that is left out, and one that isn't
    pub left_out : (cause : Cause) → or_else (repeat_of steps) (same_of steps) ≡ Some cause →
        None ≡ penalty_by i a0 a steps
    unfolding penalty_by unless
    left_out cause is = rw is refl

    pub left_in : (after : ℕ) → or_else (repeat_of steps) (same_of steps) ≡ None →
        after ≡ penalty i a0 (applied a steps) → Some after ≡ penalty_by i a0 a steps
    unfolding penalty_by unless
    left_in after is after_is = rw (is, after_is) refl

-- the move of the least answer, and that answer
pub record IsChosen (n : ℕ) (f : ℕ → Option ℕ) (g : ℕ → MoveSteps) (choice : Choice) : Type 0 where
  pub move : choice.mv ≡ g (least_place n f)
  pub after : choice.after ≡ least n f

-- how many options there are, as calls give it
pub counted : (i : Tables) (x : List ℕ) {m count : ℕ} → count ≡ option_count x m Two → m ≡ machine_count i →
    count ≡ try_count i x
unfolding try_count
counted i x count_is m_is = count_is ∙ ap (λ n. option_count x n Two) m_is

better_than_none : (a : Option ℕ) → is_better a None ≡ false → a ≡ None
unfolding is_better
better_than_none None is = refl
better_than_none (Some x) is = absurd (cc)

module _ (f : ℕ → Option ℕ) where
  -- of one answer it is that one
  one_place : least_place 1 f ≡ 0
  one_place = elim (cases_Bool (is_better (f 0) (least 0 f))) [
    | inl is ↦ (least_better 0 f is).1
    | inr is ↦ (least_kept 0 f is).1 ∙ least_place_none f
  ]

  one_least : least 1 f ≡ f 0
  one_least = elim (cases_Bool (is_better (f 0) (least 0 f))) [
    | inl is ↦ (least_better 0 f is).0
    | inr is ↦ (least_kept 0 f is).0 ∙ least_none f
        ∙ sym (better_than_none _ (ap (is_better (f 0)) (sym (least_none f)) ∙ is))
  ]

  pub first_chosen : (g : ℕ → MoveSteps) (choice : Choice) → choice.mv ≡ g 0 → choice.after ≡ f 0 →
      IsChosen 1 f g choice
  first_chosen g choice move after = record {
    move = move ∙ ap g (sym (one_place));
    after = after ∙ sym (one_least);
  }

pub next_chosen : (n : ℕ) (f : ℕ → Option ℕ) (g : ℕ → MoveSteps) (best next choice : Choice) → IsChosen n f g best →
    next.mv ≡ g n → next.after ≡ f n → choice ≡ cond (is_better next.after best.after) next best →
    IsChosen (n + 1) f g choice
next_chosen n f g best next choice chosen move after is = elim (cases_Bool (is_better next.after best.after)) [
  | inl better ↦ let same : choice ≡ next = is ∙ ap (λ t. cond t next best) better in
      let law = least_better n f (rw (after, chosen.after) at better) in
      record {
        move = ap (λ (c : Choice). c.mv) same ∙ move ∙ ap g (sym law.1);
        after = ap (λ (c : Choice). c.after) same ∙ after ∙ sym law.0;
      }
  | inr worse ↦ let same : choice ≡ best = is ∙ ap (λ t. cond t next best) worse in
      let law = least_kept n f (rw (after, chosen.after) at worse) in
      record {
        move = ap (λ (c : Choice). c.mv) same ∙ chosen.move ∙ ap g (sym law.1);
        after = ap (λ (c : Choice). c.after) same ∙ chosen.after ∙ sym law.0;
      }
]

-- a loop over all options gives what is chosen
pub best_of : (i : Tables) (a0 a : List Machine) (x : List ℕ) {n m count : ℕ} {choice : Choice} →
    IsChosen n (option_penalty i a0 a x) (try_option i a x) choice → count ≡ option_count x m Two →
    m ≡ machine_count i → n ≡ count → (choice.mv ≡ chosen i a0 a x) × (choice.after ≡ least_after i a0 a x)
unfolding chosen least_after
best_of i a0 a x {choice = choice} is count_is m_is all =
    let every = subst (λ k. IsChosen k (option_penalty i a0 a x) (try_option i a x) choice)
    (all ∙ counted i x count_is m_is) is in
    (every.move, every.after)
