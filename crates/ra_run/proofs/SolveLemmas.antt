-- What is printed of a run meets the headline.
use Rattle.std.proofs.Common.{◌≡◌, ℕ, suc, List, length, Option, Some, IsSome, refl, sym, ap, ap₂, ◌∙◌, subst, arith, Result, IfSome}
use Rattle.ra_base.specs.Searches.{least_place}
use Rattle.ra_base.specs.declared.ids.Machine.{Machine}
use Rattle.ra_base.proofs.Least.{least_means, least_there}
use Rattle.ra_bounds.specs.declared.costs.Bound.{Bound}
use Rattle.ra_bounds.specs.PinnedBounds.{pinned_bound_of}
use Rattle.ra_bounds.proofs.PinnedLemmas.{none_costs_less_pinned}
use Rattle.ra_draws.specs.declared.budgets.Lots.{Lots}
use Rattle.ra_journal.specs.declared.entries.Entry.{Entry}
use Rattle.ra_journal.specs.Best.{best_place, best_of}
use Rattle.ra_journal.specs.States.{state, cost_of_state}
use Rattle.ra_journal.specs.Openings.{Opening}
use Rattle.ra_journal.proofs.SoloLemmas.{one_lot}
use Rattle.ra_journal.proofs.SoundLemmas.{sound}
use Rattle.ra_model.specs.declared.raw.Tables.{Tables}
use Rattle.ra_model.specs.Limits.{WellFormed}
use Rattle.ra_model.specs.Feasible.{Feasible}
use Rattle.ra_report.specs.JournalTexts.{report_text, best_state, text_of}
use Rattle.ra_report.proofs.HeadLines.{report_tells_its_journal}
use Rattle.ra_report.proofs.JournalTexts.{one_journal_of_bytes}
use Rattle.ra_worker.specs.declared.solved.Solved.{Solved as Run}
use Rattle.ra_worker.specs.Runs.{IsRun}
use Rattle.ra_io.specs.Outside.{Reading}
use Rattle.ra_jobs.specs.declared.refusals.Refusal.{Refusal}
use Rattle.ra_jobs.specs.declared.refusals.Refusal.TheVariants.{Broken, Write, Memory}
use Rattle.ra_jobs.specs.declared.refusals.Role.TheVariants as role
use Rattle.ra_jobs.specs.declared.status.Status.{Status}
use Rattle.ra_jobs.specs.declared.status.Status.TheVariants.{NoMemory}
use Rattle.ra_jobs.specs.Commands.{These, over}
use Rattle.ra_jobs.specs.Ends.{Does, Tries, Finishes, Leaves}
use Rattle.ra_jobs.specs.Files.{Held, Faults, Names}
use Rattle.ra_jobs.specs.Lines.{refusal_line}
use Rattle.ra_jobs.specs.Output.{Output, BrokeOff, Put}
use Rattle.ra_jobs.specs.Refusals.{Reason, Judges}
use Rattle.ra_jobs.specs.Stages.{IsAcceptedStart, StartReason}
use Rattle.ra_jobs.proofs.ComesLemmas.{Went}
use Rattle.ra_jobs.proofs.DoesLemmas.{does_more, judged_so, judged_memory}
use Rattle.ra_jobs.proofs.StageLemmas.{breaks_start, judges_more, reason_more}
use Rattle.ra_run.specs.Headline.{IsFirstLeast, SolvePrinted, solving}
use Rattle.ra_run.specs.Solving.{IsReported}

-- the report of a run is that of its journal
pub run_told : (o : Opening) (run : Run) (sent : List ℕ → Type 0) → IsRun o run →
    Feasible o.tables o.start o.start → sent (text_of run.journal) → IsReported o sent
unfolding text_of
run_told o run sent is start text = record {
  start = start;
  journal = run.journal.entries;
  legal = is.legal;
  whole = is.whole;
  text = subst sent
      (ap (λ (p : Opening). report_text p run.journal.entries) is.opening) text;
}

-- what the report asks for is what is known of a run
pub best_told : (o : Opening) (run : Run) → IsRun o run → run.best.items ≡ best_state run.journal
unfolding best_state
best_told o run is = is.best
    ∙ ap (λ (p : Opening). let h = run.journal.entries in state p.start h (best_of p h)) (sym is.opening)

-- the bound of the instance and the start is that of the run's journal
pub bound_told : (o : Opening) (run : Run) (bound : Bound) → IsRun o run → bound ≡ pinned_bound_of o.tables o.start →
    bound ≡ pinned_bound_of run.journal.instance.tables run.journal.initial.items
bound_told o run bound is told = told ∙ ap (λ (p : Opening). pinned_bound_of p.tables p.start) (sym is.opening)

-- the best place of a journal is the first of least objective
pub first_least : (o : Opening) (h : List Entry) → IsFirstLeast o h (best_of o h)
unfolding best_of best_place
first_least o h =
    let f : ℕ → Option ℕ = λ j. Some (cost_of_state o h j) in
    let n = suc (length h) in
    let there = least_there n 0 (cost_of_state o h 0) f (omega arith) refl in
    let is = least_means n there.0 f there.1 in
    let cost : cost_of_state o h (least_place n f) ≡ there.0 = (let e = is.answer in cc) in
    record {
      within = omega (arith, is.below);
      least = λ k within. omega (arith, cost, is.smallest k (cost_of_state o h k) (omega arith) refl);
      first = λ k before. omega (arith, cost, is.earliest k (cost_of_state o h k) before refl);
    }

unfoldable pub solved : (held : Held) (names : Names) (o : Opening)
    (sent : List ℕ → Type 0) → WellFormed o.tables → IsAcceptedStart held names o.tables o.start → IsReported o sent →
    SolvePrinted held names o.lots sent
unfolding report_text
solved held names o sent limits start told =
    let h = told.journal in
    record {
      tables = o.tables;
      a0 = o.start;
      journal = h;
      bytes = report_text o h;
      accepts = start.accepts;
      start = told.start;
      text = told.text;
      report = refl;
      told = report_tells_its_journal o h;
      only = λ other tells. one_journal_of_bytes (report_text o h) other h tells
          (report_tells_its_journal o h);
      legal = told.legal;
      whole = told.whole;
      alone = λ one. (one_lot o one).no_other h (record { legal = told.legal; whole = told.whole });
      sound = λ j within. sound o h limits start.fits told.start told.legal j within;
      best_at = best_of o h;
      best = first_least o h;
      lines = refl;
      least = λ a fits feasible. (none_costs_less_pinned o.tables o.start a limits fits feasible).total;
    }

-- the reason of a refusal of the initial list, if more is said of what was written
pub start_more : (i : Tables) (a0 : List Machine) (written more : Type 0) → (written → more) → (refusal : Refusal) →
    StartReason i a0 written refusal → StartReason i a0 more refusal
start_more i a0 written more step (Broken role.Initial cause) reason = reason
start_more i a0 written more step (Broken role.Changed cause) reason = reason
start_more i a0 written more step Write reason = step reason
start_more i a0 written more step refusal reason = reason

-- the reason of a refusal of a run, of the files
pub reason_run : (held : Held) (names : Names) (o : Opening) (first now : Faults)
    (sent : List ℕ → Type 0) → IsSome names.initial → WellFormed o.tables →
    IsAcceptedStart held names o.tables o.start →
    (refusal : Refusal) →
    StartReason o.tables o.start (IsReported o sent) refusal →
    Reason held names first now (Judges held names (SolvePrinted held names o.lots sent)) refusal
reason_run held names o first now sent initial limits start (Broken role.Initial cause) reason =
    breaks_start held names o.tables o.start initial start.accepts cause reason
reason_run held names o first now sent initial limits start (Broken role.Changed cause) reason = absurd reason
reason_run held names o first now sent initial limits start Write reason =
    solved held names o sent limits start reason
reason_run held names o first now sent initial limits start Memory reason = tt
reason_run held names o first now sent initial limits start refusal reason = absurd reason

-- what was printed of a run, whole or in part, is of files that were accepted, and of a list that is feasible
pub solved_went : (held : Held) (names : Names) (l : Lots) (sent : List ℕ → Type 0) → SolvePrinted held names l sent →
    Went held names
solved_went held names l sent p = record {
  listed = record { tables = p.tables; a0 = p.a0; a = p.a0; accepts = p.accepts };
  initial = λ named. p.start;
  changed = λ named. p.start;
}

-- the reason of a refusal of some lots, of these
pub reason_these : (held : Held) (names : Names) (l : Lots) (before now : Faults) (sent : List ℕ → Type 0)
    (refusal : Refusal) → Reason held names before now (Judges held names (SolvePrinted held names l sent)) refusal →
    Reason held names before now (Judges held names ((k : Lots) × These l k × SolvePrinted held names k sent)) refusal
reason_these held names l before now sent =
    reason_more held names before now (Judges held names (SolvePrinted held names l sent))
    (Judges held names ((k : Lots) × These l k × SolvePrinted held names k sent))
    (judges_more held names (SolvePrinted held names l sent) ((k : Lots) × These l k × SolvePrinted held names k sent)
    (λ s. (l, refl, s)))

-- what the command does

pub solve_so : (names : Names) (asked : Lots → Type 0) (files : Reading) (out err : Output)
    (ended : Result (Unit {0}) Refusal) (status : Status) → Tries (over (solving names asked)) files out ended →
    Finishes names ended err status → Does (over (solving names asked)) files out err status
solve_so names asked files out err ended status tries finishes =
    judged_so names (solving names asked).prints files out err ended status tries finishes
    (λ sent p. solved_went files.held names p.0 sent p.2) (λ sent p. (_, p.2.text))

pub solve_more : (names : Names) (asked more : Lots → Type 0) (files : Reading) (out err : Output) (status : Status) →
    ((l : Lots) → asked l → more l) → Does (over (solving names asked)) files out err status →
    Does (over (solving names more)) files out err status
solve_more names asked more files out err status step does =
    let c = solving names asked in
    let d = solving names more in
    does_more names c.prints d.prints c.refuses d.refuses c.own_comes d.own_comes c.valid c.answers files out err status
    (λ p. (p.0, step p.0 p.1, p.2))
    (judges_more files.held names (c.prints files.held (BrokeOff out.sink)) (d.prints files.held (BrokeOff out.sink))
    (λ p. (p.0, step p.0 p.1, p.2)))
    (λ own. own) does

pub solve_memory : (names : Names) (asked : Lots → Type 0) (files : Reading) (out err : Output) (status : Status) →
    status ≡ NoMemory → ((names : Names) → Put err.sink (refusal_line names Memory)) → out.same → Leaves files out err →
    Does (over (solving names asked)) files out err status
solve_memory names asked files out err status is line same leaves =
    judged_memory names (solving names asked).prints files out err status is line same leaves
