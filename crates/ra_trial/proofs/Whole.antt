-- The groups of a model's text, one after another.
use Rattle.std.proofs.Common.{◌≡◌, ℕ, List, [], ◌∷◌, ◌++◌, refl, sym, arith}
use Rattle.std.proofs.lemmas.List.{append-nil}
use Rattle.ra_base.specs.Listed.{Listed}
use Rattle.ra_model_text.specs.Lines.{line_text, lines_text}
use Rattle.ra_trial.specs.Lines.{AddsAtMost}
use Rattle.ra_trial.specs.Numbers.{trial_word}
use Rattle.ra_trial.specs.Trials.{resource_lines, machine_lines, service_lines, process_lines, last_lines, text_over}
use Rattle.ra_trial.specs.Trials.{trial_model_text}
use Rattle.ra_trial.proofs.LineLemmas.{adds_as, adds_then}

module _ {a b c d e : Listed ℕ} where
  -- the whole text
  pub model_done : {f : Listed ℕ} {seed number i j k n o : ℕ} → seed ≡ number → a.items ≡ [] →
      AddsAtMost a b (lines_text resource_lines) i → AddsAtMost b c (lines_text (machine_lines (trial_word seed))) j →
      AddsAtMost c d (lines_text (service_lines (trial_word seed))) k →
      AddsAtMost d e (lines_text (process_lines (trial_word seed))) n → AddsAtMost e f (lines_text last_lines) o →
      f.items ≡ trial_model_text number
  unfolding trial_model_text text_over
  model_done same none first second third fourth fifth =
      rw (← same, fifth.items, fourth.items, third.items, second.items, first.items, none) refl

  -- the last four lines
  pub last_done : AddsAtMost a b (line_text (1 ∷ [])) 12 → AddsAtMost b c (line_text (0 ∷ 1 ∷ 2 ∷ [])) 34 →
      AddsAtMost c d (line_text (10 ∷ [])) 12 → AddsAtMost d e (line_text (1 ∷ 10 ∷ 100 ∷ [])) 34 →
      AddsAtMost a e (lines_text last_lines) 92
  unfolding last_lines lines_text
  last_done first second third fourth = adds_then 92 (omega arith) first (adds_then 80 (omega arith) second
      (adds_then 46 (omega arith) third (adds_as {o = 34} (sym (append-nil _)) (omega arith) fourth)))
