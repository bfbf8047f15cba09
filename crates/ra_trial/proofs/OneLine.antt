-- The numbers of one line of a group.
use Rattle.std.proofs.Common.{arith, ◌≡◌, ℕ, ◌+◌, ◌/◌, ◌%◌, List, [], ◌∷◌, ◌++◌, eqb, ◌≢◌, ap, ◌∙◌, sym, refl, eq-eqb}
use Rattle.std.proofs.Common.{ne_eqb}
use Rattle.std.proofs.lemmas.Bool.{cond-true, cond-false}
use Rattle.ra_model_text.specs.Lines.{line_text}
use Rattle.ra_trial.specs.Lines.{listed}
use Rattle.ra_trial.specs.Numbers.{trial_requirement_of, trial_process_cost_of, trial_spread_of, trial_way_cost_of}
use Rattle.ra_trial.specs.Trials.{machine_front, machine_line, service_line, process_line}

module _ (g : ℕ → ℕ) where
  -- a machine: its front, and its move costs after it
  pub machine_gathered : (m : ℕ) {cleared some all front : List ℕ} → cleared ≡ [] → some ≡ cleared ++ front →
      front ≡ machine_front g m → all ≡ some ++ listed 100 (trial_way_cost_of m) → all ≡ machine_line g m
  unfolding machine_line
  machine_gathered m {front} none extended is costs =
      costs ∙ ap (λ t. t ++ listed 100 (trial_way_cost_of m))
      (extended ∙ ap (λ t. t ++ front) none ∙ is)

  -- a service that depends on another, and one that doesn't
  pub service_depends : (s : ℕ) {wants : ℕ} → s % 5 ≡ 0 → wants ≡ trial_spread_of g s →
      line_text (wants ∷ 1 ∷ (s + 25) % 250 ∷ []) ≡ line_text (service_line g s)
  unfolding service_line
  service_depends s fifth is = grind (arith, eq-eqb)

  pub service_alone : (s : ℕ) {wants : ℕ} → s % 5 ≢ 0 → wants ≡ trial_spread_of g s →
      line_text (wants ∷ 0 ∷ []) ≡ line_text (service_line g s)
  unfolding service_line
  service_alone s other is =
      ap (λ w. line_text (w ∷ 0 ∷ [])) is
      ∙ ap line_text
      (sym (cond-false _ _ _
      (ne_eqb _ 0 other)))

  -- a process
  pub process_gathered : (p : ℕ) {a b c d cost : ℕ} → a ≡ trial_requirement_of g p 0 → b ≡ trial_requirement_of g p 1 →
      c ≡ trial_requirement_of g p 2 → d ≡ trial_requirement_of g p 3 → cost ≡ trial_process_cost_of g p →
      line_text (p / 4 ∷ a ∷ b ∷ c ∷ d ∷ cost ∷ []) ≡ line_text (process_line g p)
  unfolding process_line listed
  process_gathered p first second third fourth fifth = rw (first, second, third, fourth, fifth) refl
