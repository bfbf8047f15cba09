-- What a trial reads is the instance of its number and its start; and how it ends.
use Rattle.std.proofs.Common.{◌≡◌, ◌⊎◌, ℕ, zero, suc, ◌*◌, ◌<◌, sum_by, List, [], ◌∷◌, length, codes, Option, Some, None, IfSome, inr, ⊎_elim, refl, sym, ◌∙◌, subst, ap, arith, Result, Ok, Err, OnOk, IfErr, inl, true, false}
use Rattle.ra_base.specs.Listed.{Listed}
use Rattle.ra_base.specs.declared.ids.Machine.{Machine}
use Rattle.ra_model.specs.Assignments.{IsAssignment}
use Rattle.ra_draws.specs.declared.budgets.Lots.{Lots}
use Rattle.ra_draws.specs.declared.sources.Lot.{Lot}
use Rattle.ra_draws.specs.declared.sources.Source.TheVariants.{Seed, Written}
use Rattle.ra_draws.specs.Lots.{IsLots, lot_at}
use Rattle.ra_journal.specs.declared.entries.Entry.{Entry}
use Rattle.ra_journal.specs.Entries.{worker_count}
use Rattle.ra_journal.specs.Solo.{solo}
use Rattle.ra_journal.specs.Openings.{Opening, opening}
use Rattle.ra_journal.proofs.SoloLemmas.{one_lot}
use Rattle.ra_model.specs.declared.raw.Tables.{Tables}
use Rattle.ra_model.specs.Broken.{first_broken}
use Rattle.ra_model.proofs.BrokenLemmas.{unbroken_from_feasible}
use Rattle.ra_model_read.specs.ModelText.{IsModel}
use Rattle.ra_assign.specs.Lists.{IsAssignmentOf}
use Rattle.ra_assign.proofs.AssignLemmas.{assign_accepts}
use Rattle.ra_worker.specs.declared.solved.Solved.{Solved as Run}
use Rattle.ra_worker.specs.Runs.{IsRun}
use Rattle.ra_report.specs.Summaries.{summary_of, summary_text}
use Rattle.ra_trial.specs.Instances.{IsTrial, start_list}
use Rattle.ra_trial.specs.Numbers.{trial_word}
use Rattle.ra_trial.specs.Trials.{trial_model_text, start_text}
use Rattle.ra_trial.proofs.TextMeans.{text_accepted_whole, text_is_trial}
use Rattle.ra_trial.proofs.StartText.{start_text_is_start}
use Rattle.ra_trial.proofs.StartFeasible.{start_fits, start_feasible}
use Rattle.ra_trial.proofs.TrialNumbers.{has_numbers}
use Rattle.ra_io.specs.Outside.{Reading, Took}
use Rattle.ra_jobs.specs.declared.refusals.Refusal.{Refusal}
use Rattle.ra_jobs.specs.declared.refusals.Refusal.TheVariants.{Write, Memory}
use Rattle.ra_jobs.specs.Complete.{AreAccepted}
use Rattle.ra_jobs.specs.Refusals.{Reason, Nothing}
use Rattle.ra_jobs.specs.Statuses.{status_of}
use Rattle.ra_jobs.specs.declared.status.Status.{Status}
use Rattle.ra_jobs.specs.declared.status.Status.TheVariants.{Done, WriteFault, NoMemory, Usage}
use Rattle.ra_jobs.specs.Files.{Held, Names, InstanceIs, ListIs, solve_names}
use Rattle.ra_jobs.specs.Ends.{Does, Leaves}
use Rattle.ra_jobs.specs.Lines.{refusal_line}
use Rattle.ra_jobs.specs.Output.{Output, BrokeOff, Put}
use Rattle.ra_jobs.specs.Stages.{IsAcceptedStart}
use Rattle.ra_jobs.proofs.CompleteLemmas.{never_rose, own_left}
use Rattle.ra_run.specs.declared.trial.TrialFault.{TrialFault}
use Rattle.ra_run.specs.declared.trial.TrialFault.TheVariants as fault
use Rattle.ra_run.specs.Trials.{HoldsTrial, IsTrialStart, IsTrialLots, IsSummarized, TrialPrinted, TrialReason, no_names, trial_command}

-- what is told is so of what is told
told : (told : Option (List ℕ)) (bytes : List ℕ) (P : List ℕ → Type 0) → told ≡ Some bytes → IfSome told P → P bytes
told None bytes P is p = cc
told (Some other) bytes P is p = let same : other ≡ bytes = cc in subst P same p

-- the instance that is read is that of the number
instance_read : (number : ℕ) (held : Held) (i : Tables) → HoldsTrial number held →
    InstanceIs held (codes "model") None i → IsTrial (trial_word number) i
unfolding trial_model_text
instance_read number held i holds instance =
    let is : IsModel (trial_model_text number) instance.model =
    told (held (codes "model")) (trial_model_text number) (λ bytes. IsModel bytes instance.model) holds.model
    instance.read in
    subst (IsTrial (trial_word number)) (sym instance.closed) ((text_is_trial (trial_word number) instance.model).0 is)

-- the list that is read is the start
list_read : (number : ℕ) (held : Held) (i : Tables) (a0 : List Machine) → HoldsTrial number held →
    IsTrial (trial_word number) i → ListIs held (codes "start") i a0 → a0 ≡ start_list
list_read number held i a0 holds is list =
    (start_text_is_start (trial_word number) i is a0).0
    (told (held (codes "start")) start_text (λ bytes. IsAssignmentOf bytes i a0) holds.start list)

pub start_read : (number : ℕ) (held : Held) (names : Names) (model start : List ℕ) (i : Tables) (a0 : List Machine) →
    HoldsTrial number held → model ≡ codes "model" → start ≡ codes "start" → names ≡ solve_names model start None →
    IsAcceptedStart held names i a0 → IsTrialStart number i a0
start_read number held names model start i a0 holds model_is start_is names_are is_read =
    let read = subst (λ (n : Names). IsAcceptedStart held n i a0) names_are is_read in
    let instance = subst (λ (name : List ℕ). InstanceIs held name None i) model_is read.accepts.instance in
    let list = subst (λ (name : List ℕ). ListIs held name i a0) start_is read.accepts.initial in
    let is = instance_read number held i holds instance in
    record { trial = is; initial = list_read number held i a0 holds is list }

-- both texts are accepted, and files in memory have no fault: so only memory can be refused
accepted : (number : ℕ) (held : Held) → HoldsTrial number held →
    AreAccepted held (solve_names (codes "model") (codes "start") None)
unfolding trial_model_text
accepted number held holds = record {
  model = (trial_model_text number, holds.model, text_accepted_whole (trial_word number));
  closed = λ name named. absurd (cc);
  initial = λ name named i instance.
      let is = instance_read number held i holds instance in
      let same : codes "start" ≡ name = cc in (
        start_text,
        subst (λ (n : List ℕ). held n ≡ Some start_text) same holds.start,
        (assign_accepts start_text i).1 ((start_text_is_start (trial_word number) i is start_list).1 refl).file,
      );
  changed = λ name named. absurd (cc);
}

memory_alone : (refusal : Refusal) → status_of refusal ≡ NoMemory → refusal ≡ Memory
unfolding status_of
memory_alone Memory is = refl
memory_alone refusal is = cc

pub only_memory : (number : ℕ) (held : Held) (names : Names) (model start : List ℕ) (refusal : Refusal) →
    HoldsTrial number held → model ≡ codes "model" → start ≡ codes "start" → names ≡ solve_names model start None →
    Reason held names (λ name. 0) (λ name. 0) Nothing refusal → refusal ≡ Memory
only_memory number held names model start refusal holds model_is start_is names_are reason =
    let valid = subst (λ (name : List ℕ). AreAccepted held (solve_names (codes "model") name None)) (sym start_is)
    (accepted number held holds) in
    let named = subst (λ (name : List ℕ). AreAccepted held (solve_names name start None)) (sym model_is) valid in
    let all = subst (AreAccepted held) (sym names_are) named in
    memory_alone refusal (⊎_elim (λ (none : ⊥). absurd none) (λ (memory : status_of refusal ≡ NoMemory). memory)
    (own_left held names (λ name. 0) (λ name. 0) Nothing all (λ f is rose. never_rose rose) refusal reason))

-- the start fits its instance and breaks nothing
pub start_fitting : (number : ℕ) (i : Tables) (a0 : List Machine) → IsTrialStart number i a0 → IsAssignment i a0
start_fitting number i a0 start =
    subst (λ (a : List Machine). IsAssignment i a) (sym start.initial)
    (start_fits (trial_word number) i (has_numbers (trial_word number) i start.trial))

pub start_good : (number : ℕ) (i : Tables) (a0 : List Machine) → IsTrialStart number i a0 → first_broken i a0 a0 ≡ None
start_good number i a0 start =
    subst (λ (a : List Machine). first_broken i a a ≡ None) (sym start.initial)
    (unbroken_from_feasible i start_list start_list
    (start_feasible (trial_word number) i (has_numbers (trial_word number) i start.trial)))

-- the lot of a number
one_fits : (number w : ℕ) → w < 1 → (words : Listed ℕ) →
    (lot_at (record { source = Seed number; budget = 2000 } ∷ []) w).source ≡ Written words →
    length words.items ≡ 8 * (lot_at (record { source = Seed number; budget = 2000 } ∷ []) w).budget
unfolding lot_at
one_fits number zero within words written = absurd (let e : Seed number ≡ Written words = written in cc)
one_fits number (suc w) within words written = absurd (omega arith)

pub trial_lots_fit : (number : ℕ) (lots : List Lot) → lots ≡ record { source = Seed number; budget = 2000 } ∷ [] →
    IsLots lots
trial_lots_fit number lots is =
    let one : List Lot = record { source = Seed number; budget = 2000 } ∷ [] in
    let long : length one ≡ 1 = refl in
    let total : sum_by (λ (lot : Lot). lot.budget) one ≡ 2000 = refl in
    let fit : IsLots one = record {
      some = omega arith;
      few = omega arith;
      together = omega arith;
      each = λ w within. record { eight_each = one_fits number w (omega arith) };
    } in
    subst (λ (ls : List Lot). IsLots ls) (sym is) fit

pub one_worker : (number : ℕ) (l : Lots) → IsTrialLots number l → worker_count l ≡ 1
unfolding worker_count
one_worker number l is = ap length is.lots

-- the journal of a run of one lot is that of the worker alone
pub summarized : (o : Opening) (run : Run) (sent : List ℕ → Type 0) → IsRun o run →
    worker_count o.lots ≡ 1 → sent (summary_of run.journal) → IsSummarized o sent
unfolding summary_of
summarized o run sent is one text =
    let alone : run.journal.entries ≡ solo o =
    (one_lot o one).no_other run.journal.entries (record { legal = is.legal; whole = is.whole }) in
    subst sent
    (ap (λ (p : Opening). summary_text p run.journal.entries) is.opening
    ∙ ap (λ (h : List Entry). summary_text o h) alone)
    text

pub trial_printed : (number : ℕ) (o : Opening) (sent : List ℕ → Type 0) →
    IsTrialStart number o.tables o.start → IsTrialLots number o.lots → IsSummarized o sent → TrialPrinted number sent
trial_printed number o sent start lots text = record {
  tables = o.tables;
  lots = o.lots;
  trial = start.trial;
  lots_are = lots;
  text = subst (λ (a : List Machine). IsSummarized (opening o.tables a o.lots) sent) start.initial text;
}

pub trial_reason : (number : ℕ) (o : Opening) (sent : List ℕ → Type 0) →
    IsTrialStart number o.tables o.start → IsTrialLots number o.lots → (why : TrialFault) →
    TrialReason (IsSummarized o sent) why →
    TrialReason (TrialPrinted number sent) why
trial_reason number o sent start lots fault.Write reason = trial_printed number o sent start lots reason
trial_reason number o sent start lots fault.Memory reason = tt

pub ok_then : (result : Result (Unit {0}) TrialFault) (known follows : Type 0) → (known → follows) → OnOk result known →
    OnOk result follows
ok_then (Ok x) known follows step is = step is
ok_then (Err e) known follows step is = tt

pub err_then : (result : Result (Unit {0}) TrialFault) (known follows : TrialFault → Type 0) →
    ((why : TrialFault) → known why → follows why) → IfErr result known → IfErr result follows
err_then (Ok x) known follows step is = tt
err_then (Err e) known follows step is = step e is

-- ---- how it ends

pub trial_done : (number : ℕ) (files : Reading) (out err : Output) (status : Status) → status ≡ Done →
    TrialPrinted number (Took out.sink) → err.same → Leaves files out err →
    Does (trial_command number) files out err status
trial_done number files out err status is printed no_line leaves = record {
  printed = λ _. printed;
  no_line = λ _. no_line;
  refused = λ other. absurd (other is);
  not_usage = λ e. let both : Done ≡ Usage = sym is ∙ e in cc;
  comes = inl is;
  complete = λ _ _. inl is;
  leaves = leaves;
}

pub trial_broke : (number : ℕ) (files : Reading) (out err : Output) (status : Status) → status ≡ WriteFault →
    TrialPrinted number (BrokeOff out.sink) → ((names : Names) → Put err.sink (refusal_line names Write)) →
    Leaves files out err → Does (trial_command number) files out err status
unfolding status_of
trial_broke number files out err status is broken line leaves = record {
  printed = λ e. absurd (let both : WriteFault ≡ Done = sym is ∙ e in cc);
  no_line = λ e. absurd (let both : WriteFault ≡ Done = sym is ∙ e in cc);
  refused = λ _. record {
    refusal = Write;
    reason = broken;
    is = is;
    line = line no_names;
    no_output = λ first. absurd (let both : true ≡ false = first in cc);
  };
  not_usage = λ e. let both : WriteFault ≡ Usage = sym is ∙ e in cc;
  comes = inr (inl is);
  complete = λ _ wrote. absurd (wrote broken.text.1);
  leaves = leaves;
}

pub trial_memory : (number : ℕ) (files : Reading) (out err : Output) (status : Status) → status ≡ NoMemory →
    ((names : Names) → Put err.sink (refusal_line names Memory)) → out.same → Leaves files out err →
    Does (trial_command number) files out err status
unfolding status_of
trial_memory number files out err status is line same leaves = record {
  printed = λ e. absurd (let both : NoMemory ≡ Done = sym is ∙ e in cc);
  no_line = λ e. absurd (let both : NoMemory ≡ Done = sym is ∙ e in cc);
  refused = λ _. record { refusal = Memory; reason = tt; is = is; line = line no_names; no_output = λ _. same };
  not_usage = λ e. let both : NoMemory ≡ Usage = sym is ∙ e in cc;
  comes = inr (inr is);
  complete = λ _ _. inr is;
  leaves = leaves;
}
