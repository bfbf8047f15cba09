-- What is printed of a search meets the headline.
use Rattle.std.proofs.Common.{◌≡◌, ℕ, List, Option, Some, None, IfSome, IsSome, Result, refl}
use Rattle.std.proofs.Common.{sym, ap, ◌∙◌}
use Rattle.ra_base.specs.declared.causes.Cause.{Cause}
use Rattle.ra_base.specs.declared.ids.Machine.{Machine}
use Rattle.ra_bounds.specs.declared.costs.Bound.{Bound}
use Rattle.ra_bounds.specs.PinnedBounds.{pinned_bound_of}
use Rattle.ra_bounds.proofs.PinnedLemmas.{none_costs_less_pinned}
use Rattle.ra_io.specs.Outside.{Reading}
use Rattle.ra_model.specs.declared.raw.Tables.{Tables}
use Rattle.ra_model.specs.Assignments.{IsAssignment}
use Rattle.ra_model.specs.Broken.{first_broken}
use Rattle.ra_model.specs.Limits.{WellFormed}
use Rattle.ra_model.proofs.BrokenLemmas.{feasible_from_unbroken, unbroken_from_feasible}
use Rattle.ra_jobs.specs.declared.refusals.Refusal.{Refusal}
use Rattle.ra_jobs.specs.declared.refusals.Refusal.TheVariants.{Broken, Write, Memory}
use Rattle.ra_jobs.specs.declared.refusals.Role.{Role}
use Rattle.ra_jobs.specs.declared.refusals.Role.TheVariants as role
use Rattle.ra_jobs.specs.declared.status.Status.{Status}
use Rattle.ra_jobs.specs.declared.status.Status.TheVariants.{NoMemory}
use Rattle.ra_jobs.specs.Commands.{over}
use Rattle.ra_jobs.specs.Ends.{Does, Tries, Finishes, Leaves}
use Rattle.ra_jobs.specs.Files.{Held, Faults, Names, IsNamed, file_of}
use Rattle.ra_jobs.specs.Lines.{refusal_line}
use Rattle.ra_jobs.specs.Output.{Output, Put}
use Rattle.ra_jobs.specs.Refusals.{Reason, Judges, Breaks}
use Rattle.ra_jobs.specs.Stages.{JudgeReason}
use Rattle.ra_jobs.proofs.ComesLemmas.{Went}
use Rattle.ra_jobs.proofs.DoesLemmas.{judged_so, judged_memory}
use Rattle.ra_search.specs.declared.found.Found.{Found}
use Rattle.ra_search.specs.Found.{IsFound}
use Rattle.ra_anneal.specs.declared.given.Given.{Given}
use Rattle.ra_anneal.specs.Commands.{command_of}
use Rattle.ra_anneal.specs.Headline.{AnnealPrinted, anneal_names, annealing}
use Rattle.ra_anneal.specs.Jobs.{AnnealSays, Helps, Versions, Anneals}
use Rattle.ra_anneal.specs.Searching.{from_in, IsGiven, IsAnnealed, text_of}
use Rattle.ra_anneal.specs.Texts.{annealed_text, help_text, version_text}
use Rattle.ra_anneal.proofs.TellLemmas.{tell_memory}

-- the text of what a search has found was sent
pub found_told : (i : Tables) (a0 from : List Machine) (bound : Bound) (found : Found) (sent : List ℕ → Type 0) →
    WellFormed i → IsAssignment i a0 → IsAssignment i from → first_broken i a0 a0 ≡ None →
    first_broken i a0 from ≡ None → IsFound i a0 from found → bound ≡ pinned_bound_of i a0 →
    sent (annealed_text found.parts bound.total found.told.heat found.told.tries found.told.done found.best.items
    found.last.items) → IsAnnealed i a0 from sent
found_told i a0 from bound found sent limits fits from_fits unbroken from_unbroken is bound_is text = record {
  start = feasible_from_unbroken i a0 a0 limits fits unbroken;
  begun = feasible_from_unbroken i a0 from limits from_fits from_unbroken;
  found = found;
  is = is;
  text = rw (← bound_is) text;
}

module _ (held : Held) (names : Names) (given : Given) (is : IsGiven held names given) where
  pub annealed : (sent : List ℕ → Type 0) → WellFormed given.inst.tables →
      IsAnnealed given.inst.tables given.initial.items (from_in given) sent → AnnealPrinted held names sent
  annealed sent limits told =
      let i = given.inst.tables in
      let a0 = given.initial.items in
      let found = told.found in
      record {
        tables = i;
        a0 = a0;
        from = from_in given;
        best = found.best.items;
        last = found.last.items;
        heat = found.told.heat;
        tries = found.told.tries;
        done = found.told.done;
        bytes = text_of i a0 found;
        accepts = is.accepts;
        begins = is.begins;
        start = told.start;
        begun = told.begun;
        found = told.is.best;
        found_fits = told.is.fits;
        ended = told.is.last;
        ended_fits = told.is.last_fits;
        text = told.text;
        lines =
            ap (λ parts. annealed_text parts (pinned_bound_of i a0).total found.told.heat found.told.tries
            found.told.done found.best.items found.last.items) told.is.parts;
        no_dearer = told.is.no_dearer;
        below_last = told.is.below_last;
        optimal = told.is.optimal;
        least = λ a fits feasible. (none_costs_less_pinned i a0 a limits fits feasible).total;
      }

  -- the list from which the search begins is not refused unless it has a file
  from_named : (changed : Option (List ℕ)) → names.changed ≡ changed → (cause : Cause) →
      Breaks given.inst.tables given.initial.items (from_in given) role.Changed cause → IsSome changed
  from_named (Some name) same cause breaks = refl
  from_named None same cause breaks =
      let i = given.inst.tables in
      let a0 = given.initial.items in
      let none : first_broken i a0 (from_in given) ≡ None =
      ap (λ a. first_broken i a0 a) (is.begins same) ∙ unbroken_from_feasible i a0 a0 breaks.0 in
      absurd (cc (sym none ∙ breaks.1))

  list_named : IsSome names.initial → (which : Role) (cause : Cause) →
      Breaks given.inst.tables given.initial.items (from_in given) which cause → IsNamed names (file_of which)
  list_named initial role.Initial cause breaks = initial
  list_named initial role.Changed cause breaks = from_named names.changed refl cause breaks

  -- the reason of a refusal, of the files
  pub reason_given : (first now : Faults) (sent : List ℕ → Type 0) → IsSome names.initial →
      WellFormed given.inst.tables → (refusal : Refusal) →
      JudgeReason given.inst.tables given.initial.items (from_in given)
      (IsAnnealed given.inst.tables given.initial.items (from_in given) sent) refusal →
      Reason held names first now (Judges held names (AnnealPrinted held names sent)) refusal
  reason_given first now sent initial limits (Broken which cause) reason = record {
    tables = given.inst.tables;
    a0 = given.initial.items;
    a = from_in given;
    start_named = initial;
    named = list_named initial which cause reason;
    accepts = is.accepts;
    breaks = reason;
  }
  reason_given first now sent initial limits Write reason = annealed sent limits reason
  reason_given first now sent initial limits Memory reason = tt
  reason_given first now sent initial limits refusal reason = absurd reason

-- what was printed, whole or in part, is of files that were accepted, and of lists that are feasible
pub annealed_went : (held : Held) (names : Names) (sent : List ℕ → Type 0) → AnnealPrinted held names sent →
    Went held names
annealed_went held names sent p = record {
  listed = record { tables = p.tables; a0 = p.a0; a = p.from; accepts = p.accepts };
  initial = λ named. p.start;
  changed = λ named. p.begun;
}

-- what the command does

pub anneal_so : (names : Names) (files : Reading) (out err : Output) (ended : Result (Unit {0}) Refusal)
    (status : Status) → Tries (over (annealing names)) files out ended → Finishes names ended err status →
    Does (over (annealing names)) files out err status
anneal_so names files out err ended status tries finishes =
    judged_so names (annealing names).prints files out err ended status tries finishes
    (λ sent p. annealed_went files.held names sent p) (λ sent p. (p.bytes, p.text))

-- if memory was refused before the words were read, the command of whatever job they are did what it promises
pub memory_any : (job : Option AnnealSays) (files : Reading) (out err : Output) (status : Status) →
    status ≡ NoMemory → ((names : Names) → Put err.sink (refusal_line names Memory)) → out.same →
    Leaves files out err → IfSome job (λ says. Does (command_of says) files out err status)
memory_any None files out err status is line same leaves = tt
memory_any (Some Helps) files out err status is line same leaves =
    tell_memory help_text files out err status leaves is line same
memory_any (Some Versions) files out err status is line same leaves =
    tell_memory version_text files out err status leaves is line same
memory_any (Some (Anneals model initial from closed schedule)) files out err status is line same leaves =
    let names = anneal_names model initial from closed in
    judged_memory names (annealing names).prints files out err status is line same leaves
