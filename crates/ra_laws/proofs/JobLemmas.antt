-- What told files mean is one instance but for its rooms; and the text of a trial rests on its number alone.
use Rattle.std.specs.Prelude.{unwrap_or}
use Rattle.std.proofs.Common.{ℕ, List, [], Option, IsSome, refl, sym, ◌∙◌, ap, subst}
use Rattle.ra_draws.specs.declared.budgets.Lots.{Lots}
use Rattle.ra_journal.specs.Solo.{solo}
use Rattle.ra_journal.specs.Openings.{opening}
use Rattle.ra_model.specs.declared.raw.Tables.{Tables}
use Rattle.ra_report.specs.Summaries.{summary_text}
use Rattle.ra_trial.specs.Instances.{IsTrial, start_list}
use Rattle.ra_trial.specs.Numbers.{trial_word}
use Rattle.ra_jobs.specs.declared.refusals.File.TheVariants as file
use Rattle.ra_jobs.specs.Files.{Held, Names, name_of}
use Rattle.ra_laws.specs.JobLaws.{flags_of, AreAlike, AreAlikeLots, AreTold, ToldFilesMeanOne, TrialsHaveOneText}
use Rattle.ra_laws.specs.JobLaws.{TrialsPrintOneText}
use Rattle.ra_run.specs.Trials.{IsTrialLots}
use Rattle.ra_laws.proofs.AlikeLemmas.{summary_lots, alike_run_alike, alike_from_bare}
use Rattle.ra_jobs.proofs.MeaningLemmas.{Told, instances_same, lists_same}

told_named : (held : Held) (named : Option (List ℕ)) → (IsSome named → IsSome (held (unwrap_or named []))) →
    Told held named
told_named held named told name is =
    subst (λ (o : Option (List ℕ)). IsSome (held (unwrap_or o []))) is (told (subst IsSome (sym is) refl))

module _ (held : Held) (names : Names) where
  -- the files of a job, by name
  told_model : AreTold held names → IsSome (held names.model)
  unfolding name_of
  told_model told = told file.Model tt

  told_closed : AreTold held names → Told held names.closed
  unfolding name_of
  told_closed told = told_named held names.closed (told file.Closed)

  told_initial : AreTold held names → Told held names.initial
  unfolding name_of
  told_initial told = told_named held names.initial (told file.Initial)

  told_changed : AreTold held names → Told held names.changed
  unfolding name_of
  told_changed told = told_named held names.changed (told file.Changed)

pub told_files_mean_one : ToldFilesMeanOne
told_files_mean_one held names i j a0 b0 a b told one other =
    let same = instances_same held names.model names.closed (told_model held names told) (told_closed held names told) i
    j one.instance other.instance in
    record {
      instance = alike_from_bare i j same;
      initial = λ named. lists_same held names.initial (told_initial held names told) named i j a0 b0 one.initial
          other.initial;
      changed = λ named. lists_same held names.changed (told_changed held names told) named i j a b one.changed
          other.changed;
    }

-- two instances of a number
trials_alike : (g : ℕ → ℕ) (i j : Tables) → IsTrial g i → IsTrial g j → AreAlike i j
trials_alike g i j one other = record {
  lists = one.lists ∙ sym other.lists;
  flags = ap flags_of (one.open_to_all ∙ sym other.open_to_all);
}

trial_lots_alike : (number : ℕ) (l k : Lots) → IsTrialLots number l → IsTrialLots number k → AreAlikeLots l k
trial_lots_alike number l k one other = record {
  slack = one.slack ∙ sym other.slack;
  drawing = one.drawing ∙ sym other.drawing;
  lots = one.lots ∙ sym other.lots;
}

pub trials_have_one_text : TrialsHaveOneText
trials_have_one_text number i j l k first second of_first of_second =
    let alike = alike_run_alike i j (trials_alike (trial_word number) i j first second) in
    alike.summary start_list l (solo (opening i start_list l))
    ∙ summary_lots j start_list l k (solo (opening i start_list l))
    ∙ ap (summary_text (opening j start_list k))
    (alike.alone start_list l k (trial_lots_alike number l k of_first of_second))

pub trials_print_one_text : TrialsPrintOneText
trials_print_one_text number one other first second =
    first.text ∙ trials_have_one_text number first.tables second.tables first.lots second.lots first.trial second.trial
    first.lots_are second.lots_are ∙ sym second.text
