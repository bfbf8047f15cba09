-- The model's text of a trial means the trial's instance.
use Rattle.std.proofs.Common.{◌≡◌, ◌↔◌, ℕ, None, Ok, Result, sym, ap, ◌∙◌, subst, arith, append_assoc}
use Rattle.std.specs.Result.{result_err}
use Rattle.ra_model.specs.declared.raw.Tables.{Tables}
use Rattle.ra_model.specs.Numbers.{all_open}
use Rattle.ra_model_read.specs.declared.faults.ModelFault.{ModelFault}
use Rattle.ra_model_read.specs.FieldOrder.{IsTextOf}
use Rattle.ra_model_read.specs.Lists.{Lists, lists_of}
use Rattle.ra_model_read.specs.ModelText.{model_of, IsModel, model_refusal}
use Rattle.ra_model_read.proofs.TextAccepted.{text_accepted}
use Rattle.ra_model_text.specs.Lines.{lines_text}
use Rattle.ra_trial.specs.Trials.{text_over}
use Rattle.ra_trial.specs.Instances.{trial_lists, IsTrial}
use Rattle.ra_model_text.proofs.LineTexts.{lines_append}
use Rattle.ra_trial.proofs.LineNumbers.{all_lines, numbers_same}
use Rattle.ra_model_text.proofs.LineTokens.{lines_told}
use Rattle.ra_trial.proofs.Made.{made, made_is_trial}
use Rattle.ra_trial.proofs.TrialBounds.{all_short}
use Rattle.ra_trial.proofs.TrialLimits.{trial_fits}
use Rattle.ra_trial.proofs.TrialNumbers.{has_numbers}

same_lists : (answer : Result Lists ModelFault) (a b : Lists) → answer ≡ Ok a → answer ≡ Ok b → a ≡ b
same_lists answer a b one other = cc

module _ (g : ℕ → ℕ) where
  text_is_lines : text_over g ≡ lines_text (all_lines g)
  unfolding text_over all_lines
  text_is_lines = simp (lines_append, append_assoc)

  text_has_numbers : (i : Tables) → IsTrial g i → IsTextOf (text_over g) i
  text_has_numbers i is =
      let short = all_short g in
      let told = lines_told (all_lines g) short.small (omega (arith, short.short)) in
      rw (text_is_lines) (record {
        sound = told.0;
        numbers = told.1 ∙ numbers_same g i (has_numbers g i is);
      })

  pub text_means : model_of (text_over g) ≡ Ok (trial_lists g)
  text_means =
      let is = made_is_trial g in
      text_accepted _ _ (trial_fits g _ is)
      (text_has_numbers _ is)
      ∙ ap (λ l. Ok l) is.lists

  pub text_is_trial : (i : Tables) → IsModel (text_over g) i ↔ IsTrial g i
  text_is_trial i = (
    λ model. record {
      lists = same_lists _ _ _ model.lists (text_means);
      open_to_all = model.open_to_all;
    },
    λ trial. record {
      lists = text_means ∙ ap (λ l. Ok l) (sym trial.lists);
      open_to_all = trial.open_to_all;
    },
  )

  pub text_accepted_whole : model_refusal (text_over g) ≡ None
  unfolding model_refusal
  text_accepted_whole = ap result_err (text_means)
