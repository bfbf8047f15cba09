-- How `edit` ends, from how its stages end.
use Rattle.std.proofs.Common.{◌≡◌, ◌⊎◌, ℕ, ◌≤◌, List, length, Some, None, IfSome, Result, inl, inr, ⊎_elim, refl, sym, ◌∙◌, ap, subst}
use Rattle.ra_base.specs.declared.causes.Cause.{Cause}
use Rattle.ra_base.specs.declared.ids.Machine.{Machine}
use Rattle.ra_base.specs.Searches.{first}
use Rattle.ra_edit.specs.Drafts.{Drafted, draft_of, instance_of}
use Rattle.ra_edit.specs.Keeping.{IsSoundDraft}
use Rattle.ra_edit.specs.Leaving.{left_in}
use Rattle.ra_edit.specs.Replies.{after_edits, replies_to}
use Rattle.ra_edit.specs.SameLists.{HasLists, AreSameLists}
use Rattle.ra_edit.specs.declared.replies.EditReply.{EditReply}
use Rattle.ra_edit_read.specs.declared.faults.EditsFault.{EditsFault}
use Rattle.ra_edit_read.specs.declared.faults.EditsFault.TheVariants as reader
use Rattle.ra_edit_read.specs.Answers.{IsEditsRefusal}
use Rattle.ra_edit_read.specs.EditLists.{EditLists}
use Rattle.ra_edit_read.specs.EditTexts.{edits_refusal, AreEditsOf, added_test, resized_test, numbers_test, found_test, edit_test}
use Rattle.ra_edit_read.proofs.FileLaws.{edits_accept}
use Rattle.ra_io.specs.Faults.{Rose}
use Rattle.ra_model.specs.Assignments.{IsAssignment}
use Rattle.ra_model.specs.Costs.{parts_of}
use Rattle.ra_model.specs.Feasible.{Feasible}
use Rattle.ra_model.specs.Limits.{WellFormed, Small}
use Rattle.ra_model.specs.Numbers.{resource_row, machine_row, service_row, process_row, balance_row, resource_count, machine_count, service_count, process_count, balance_count, transient_at, load_weight_of, neighbourhood_of, location_of, capacity_of, safety_of, way_cost_of, spread_of, dependency_end, dependency_start, dependency_count, need_at, need_of, service_of, requirement_of, process_cost_of, first_of, second_of, target_of, balance_weight_of, process_weight_of, service_weight_of, machine_weight_of}
use Rattle.ra_model.specs.declared.raw.RawInstance.{RawInstance}
use Rattle.ra_model.specs.declared.raw.Tables.{Tables}
use Rattle.ra_model.proofs.BrokenLemmas.{unbroken_from_feasible}
use Rattle.ra_model_read.specs.FieldOrder.{end_to_end, resource_numbers, machine_numbers, service_numbers, process_numbers}
use Rattle.ra_model_read.specs.Lists.{lists_of}
use Rattle.ra_model_read.specs.ModelText.{model_refusal}
use Rattle.ra_model_text.proofs.Meaning.{text_accepted_whole}
use Rattle.ra_model_text.specs.ModelTexts.{group_text, resource_text, machine_text, service_text, process_text, balance_text, weights_text, model_text}
use Rattle.ra_io.specs.Outside.{Reading, Took}
use Rattle.ra_token.proofs.ToldLemmas.{told_then}
use Rattle.ra_jobs.specs.declared.refusals.File.TheVariants as file
use Rattle.ra_jobs.specs.declared.refusals.Refusal.{Refusal}
use Rattle.ra_jobs.specs.declared.refusals.Refusal.TheVariants.{Read, Edits, Broken, Write, Memory}
use Rattle.ra_jobs.specs.declared.refusals.Role.{Role}
use Rattle.ra_jobs.specs.declared.refusals.Role.TheVariants as role
use Rattle.ra_jobs.specs.declared.status.Status.{Status}
use Rattle.ra_jobs.specs.declared.status.Status.TheVariants.{Done, Infeasible, BadEdits, NoMemory}
use Rattle.ra_jobs.specs.Comes.{KnownTo}
use Rattle.ra_jobs.specs.Complete.{NoFault}
use Rattle.ra_jobs.specs.Commands.{over}
use Rattle.ra_jobs.specs.Ends.{Does, Tries, Finishes, Leaves}
use Rattle.ra_jobs.specs.Files.{Held, Faults, Names, name_of, IsNamed, EndsAt, Accepts}
use Rattle.ra_jobs.specs.Lines.{refusal_line}
use Rattle.ra_jobs.specs.Output.{Output, BrokeOff, Put}
use Rattle.ra_jobs.specs.Refusals.{Reason, CanTell, RoleBreaks}
use Rattle.ra_jobs.specs.Stages.{JudgeReason, WriteReason}
use Rattle.ra_jobs.specs.Statuses.{status_of}
use Rattle.ra_jobs.proofs.BareLemmas.{bare}
use Rattle.ra_jobs.proofs.ComesLemmas.{Listed, Went, breaks_listed, breaks_never, known_model, own_known, told_closed}
use Rattle.ra_jobs.proofs.CompleteLemmas.{is_done, complete, contradiction}
use Rattle.ra_jobs.proofs.DoesLemmas.{does_so, memory_refused}
use Rattle.ra_jobs.proofs.EndLemmas.{Ends, finished, left_so}
use Rattle.ra_jobs.proofs.MeaningLemmas.{told_gives, instances_same}
use Rattle.ra_jobs.proofs.RowLemmas.{raw_of, bare_raw, raw_same}
use Rattle.ra_jobs.proofs.StageLemmas.{rose_later, breaks_role, can_tell, reason_more}
use Rattle.ra_jobs.specs.declared.edit.Outcome.{Outcome}
use Rattle.ra_jobs.specs.EditedTexts.{model_part, edited_lines, edited_text}
use Rattle.ra_jobs.specs.Outcomes.{IsOutcome, edited_outcome_text}
use Rattle.ra_jobs.specs.Editing.{edited_draft, text_left, edits_output, IsRunOfEdits, IsTakenWithEdits, Edited, EditsRefused, EditsAccepted, EditOwn, EditComes, AreEditable, edits_as, EditsReason, HasEdits, editing}

-- ---- the text of instances with the same lists

lists_as : (x y : RawInstance) → HasLists x y → lists_of x ≡ lists_of y
lists_as x y h = rw (
  h.resources,
  h.machines,
  h.capacities,
  h.safeties,
  h.move_costs,
  h.services,
  h.dependencies,
  h.processes,
  h.requirements,
  h.balances,
  h.process_weight,
  h.service_weight,
  h.machine_weight,
) refl

-- the instance of lists without room, in which no machine is closed
abbrev open_bare : RawInstance → Tables
open_bare raw = record { raw = bare_raw raw; closed = None }

text_bare : (i : Tables) → model_text (open_bare i.raw) ≡ model_text i
unfolding raw_of bare_raw model_text group_text resource_text machine_text service_text process_text balance_text
    weights_text end_to_end resource_numbers machine_numbers service_numbers process_numbers resource_row machine_row
    service_row process_row balance_row resource_count machine_count service_count process_count balance_count
    transient_at load_weight_of neighbourhood_of location_of capacity_of safety_of way_cost_of spread_of dependency_end
    dependency_start dependency_count need_at need_of service_of requirement_of process_cost_of first_of second_of
    target_of balance_weight_of process_weight_of service_weight_of machine_weight_of
text_bare i = refl

pub text_same : (i j : Tables) → HasLists j.raw i.raw → model_text j ≡ model_text i
text_same i j same = sym (text_bare j)
    ∙ (ap (λ (raw : RawInstance). model_text (record { raw = raw; closed = None }))
    (raw_same j.raw i.raw (lists_as j.raw i.raw same)) ∙ text_bare i)

-- the text of what a draft leaves is that of the draft
pub left_text : (d : Drafted) (i : Tables) (a0 a : List Machine) (replies : List EditReply) →
    AreSameLists (instance_of d) i → a0 ≡ d.initial → a ≡ d.current →
    parts_of i a0 a ≡ parts_of (instance_of d) d.initial d.current →
    edited_text i a0 a replies ≡ edited_text (instance_of d) d.initial d.current replies
unfolding edited_text edited_lines model_part
left_text d i a0 a replies same first second parts =
    rw (parts, text_same (instance_of d) i same.lists, first, second) refl

-- instances that differ in room alone take the same edits files
edits_bare : (bytes : List ℕ) (i : Tables) → edits_refusal bytes (bare i) ≡ edits_refusal bytes i
unfolding raw_of bare_raw edits_refusal edit_test found_test numbers_test added_test resized_test resource_count
    machine_count service_count
edits_bare bytes i = refl

edits_same : (bytes : List ℕ) (i j : Tables) → bare i ≡ bare j → edits_refusal bytes i ≡ edits_refusal bytes j
edits_same bytes i j same = sym (edits_bare bytes i) ∙ (ap (edits_refusal bytes) same ∙ edits_bare bytes j)

module _ (held : Held) where
  module _ (name : List ℕ) (i : Tables) (before now : Faults) where
    -- ---- the stages

    pub edits_reason : (fault : EditsFault) → (fault ≡ reader.ReadFault → Rose (before name) (now name)) →
        IfSome (held name) (λ bytes. IsEditsRefusal bytes i fault) → EditsReason held name i before now (edits_as fault)
    edits_reason reader.ReadFault rose told = rose refl
    edits_reason reader.NoMemory rose told = tt
    edits_reason fault rose told = ((λ e. cc, λ e. cc), told)

  module _ (later : Held) (names : Names) (i : Tables) (a0 a : List Machine) (first before now : Faults)
      (written : Type 0) (same : (other : List ℕ) → later other ≡ held other) (never_fell : (other : List ℕ) →
      first other ≤ before other) (named : IsNamed names file.Edits) (accepts : Accepts held names i a0 a) where
    -- a refusal of the edits
    pub reason_edits : (refusal : Refusal) → EditsReason later (name_of names file.Edits) i before now refusal →
        Reason held names first now (EditOwn held names written) refusal
    reason_edits (Read file.Edits) reason =
        record {
          earlier = (i, a0, a, accepts);
          named = named;
          rose = rose_later _ _ _ (never_fell _) reason;
        }
    reason_edits (Edits fault) reason =
        record {
          tables = i;
          a0 = a0;
          a = a;
          accepts = accepts;
          named = named;
          in_file = reason.0;
          refused = rw (sym (same (name_of names file.Edits))) reason.1;
        }
    reason_edits Memory reason = tt
    reason_edits refusal reason =
        absurd reason

  pub taken_all : (later : Held) (names : Names) (i : Tables) (a0 a : List Machine) (e : EditLists) →
      ((other : List ℕ) → later other ≡ held other) → Accepts held names i a0 a → IsAssignment i a0 → IsAssignment i a →
      HasEdits later (name_of names file.Edits) i e → IsTakenWithEdits held names i a0 a e
  taken_all later names i a0 a e same accepts first second has = record {
    accepts = accepts;
    initial = first;
    current = second;
    edits = rw (sym (same (name_of names file.Edits))) has.edits;
    fits = has.fits;
  }

  module _ (names : Names) where
    module _ (i : Tables) (a0 a : List Machine) (e : EditLists) where
      accepted_of : IsTakenWithEdits held names i a0 a e → EditsAccepted held names
      accepted_of taken = record {
        tables = i;
        a0 = a0;
        a = a;
        accepts = taken.accepts;
        none = told_then {P = λ bytes. AreEditsOf bytes i e} {Q = λ bytes. edits_refusal bytes i ≡ None}
            _ taken.edits (λ bytes is. (edits_accept bytes i).1 (is.count, is.file));
      }

      module _ (before now : Faults) (sent : List ℕ → Type 0) (initial : IsNamed names file.Initial)
          (changed : IsNamed names file.Changed) (taken : IsTakenWithEdits held names i a0 a e) where
        -- a refusal of the run
        pub reason_run : (refusal : Refusal) → JudgeReason i a0 a (IsRunOfEdits i a0 a e sent) refusal →
            Reason held names before now (EditOwn held names (Edited held names sent)) refusal
        reason_run (Broken which cause) reason = (
          accepted_of taken,
          breaks_role held names i a0 a initial changed taken.accepts which cause reason,
        )
        reason_run Write reason = record {
          tables = i;
          a0 = a0;
          a = a;
          edits = e;
          taken = taken;
          run = reason;
        }
        reason_run Memory reason = tt
        reason_run refusal reason = absurd reason

      pub edited_all : (sent : List ℕ → Type 0) → IsTakenWithEdits held names i a0 a e → IsRunOfEdits i a0 a e sent →
          Edited held names sent
      edited_all sent taken run = record {
        tables = i;
        a0 = a0;
        a = a;
        edits = e;
        taken = taken;
        run = run;
      }

    own_more : (written more : Type 0) → (written → more) → (r : Refusal) →
        EditOwn held names written r → EditOwn held names more r
    own_more written more step (Edits fault) reason = reason
    own_more written more step (Broken which cause) reason = reason
    own_more written more step Write reason = step reason
    own_more written more step refusal reason = absurd reason

    own_tells : (written : Type 0) (r : Refusal) → EditOwn held names written r → CanTell names r
    own_tells written (Edits fault) reason = (reason.named, reason.in_file)
    own_tells written (Broken which cause) reason = reason.1.named
    own_tells written Write reason = tt
    own_tells written refusal reason = absurd reason

    -- ---- when its statuses come

    -- a run is written of feasible lists alone
    edited_went : (sent : List ℕ → Type 0) → Edited held names sent → Went held names
    edited_went sent is = record {
      listed = record { tables = is.tables; a0 = is.a0; a = is.a; accepts = is.taken.accepts };
      initial = λ named. is.run.start;
      changed = λ named. is.run.current;
    }

    module _ (before now : Faults) where
      pub reason_untaken : (written : Type 0) (refusal : Refusal) →
          Reason held names before now (EditOwn held names ⊥) refusal →
          Reason held names before now (EditOwn held names written) refusal
      reason_untaken written refusal reason = reason_more held names before now _
          _ (own_more ⊥ written absurd) refusal reason

      pub can_tell_edits : (written : Type 0) (refusal : Refusal) →
          Reason held names before now (EditOwn held names written) refusal → CanTell names refusal
      can_tell_edits written =
          can_tell held names before now _ (own_tells written)

      -- no edits file is refused and accepted at once
      not_both : KnownTo held names before now file.Edits →
          (fault : EditsFault) → EditsRefused held names fault → EditsAccepted held names → ⊥
      not_both known fault refused accepted =
          let same = instances_same held names.model names.closed (known_model held names before now file.Edits known)
          (told_closed held names before now file.Edits refl known) refused.tables accepted.tables
          refused.accepts.instance accepted.accepts.instance in
          told_gives ⊥ (λ bytes. edits_refusal bytes refused.tables ≡ Some fault)
          (λ bytes. edits_refusal bytes accepted.tables ≡ None) _
          (known file.Edits refl refused.named).0
          (λ bytes some none. cc (sym none
          ∙ (sym (edits_same bytes refused.tables accepted.tables same) ∙ some)))
          refused.refused accepted.none

      module _ (sent : List ℕ → Type 0) (known : KnownTo held names before now file.Edits) where
        bad_own : (fault : EditsFault) → EditsRefused held names fault →
            (refusal : Refusal) → EditOwn held names (Edited held names sent) refusal → status_of refusal ≡ BadEdits
        unfolding status_of
        bad_own fault refused (Edits other) reason = refl
        bad_own fault refused (Broken which cause) reason =
            absurd (not_both known fault refused reason.0)
        bad_own fault refused Write reason =
            absurd (not_both known fault refused
            (accepted_of reason.tables reason.a0 reason.a reason.edits reason.taken))
        bad_own fault refused refusal reason = absurd reason

        module _ (accepted : EditsAccepted held names) (which : Role) (cause : Cause)
            (breaks : RoleBreaks held names which cause) where
          -- no run is written of lists that break a constraint
          broken_own : (refusal : Refusal) → EditOwn held names (Edited held names sent) refusal →
              status_of refusal ≡ Infeasible
          unfolding status_of
          broken_own (Edits fault) reason =
              absurd (not_both known fault reason accepted)
          broken_own (Broken one other) reason = refl
          broken_own Write reason =
              absurd (breaks_never held names before now known which cause breaks (edited_went sent reason))
          broken_own refusal reason = absurd reason

      -- if memory was refused before the words were read
      pub edit_not : (status : Status) → status ≡ NoMemory → EditComes held names before now status
      edit_not status is = record {
        bad_edits = record {
          only = λ e. cc;
          always = λ known cause. inr is;
        };
        infeasible = record {
          only = λ e. cc;
          always = λ known cause. inr is;
        };
      }

    module _ (sent : List ℕ → Type 0) where
      pub edited_listed : Edited held names sent → Listed held names
      edited_listed is = (edited_went sent is).listed

      pub own_listed : (r : Refusal) → EditOwn held names (Edited held names sent) r → Listed held names
      own_listed (Edits fault) reason = record {
        tables = reason.tables;
        a0 = reason.a0;
        a = reason.a;
        accepts = reason.accepts;
      }
      own_listed (Broken which cause) reason = breaks_listed held names which cause reason.1
      own_listed Write reason = edited_listed reason
      own_listed refusal reason = absurd reason

      -- over valid files none of its own refusals can come
      valid_none : AreEditable held names → ((text : List ℕ) → sent text → ⊥) → (refusal : Refusal) →
          EditOwn held names (Edited held names sent) refusal → ⊥
      valid_none editable wrote (Edits fault) reason =
          let accepted = editable.edits reason.tables reason.a0 reason.a reason.accepts in
          contradiction _ accepted.0 (λ bytes. edits_refusal bytes reason.tables) fault
          accepted.1 accepted.2 reason.refused
      valid_none editable wrote (Broken role.Initial cause) reason =
          let b = reason.1 in
          let none = unbroken_from_feasible b.tables b.a0 b.a0
          (editable.valid.initial b.named b.tables b.a0 b.a b.accepts) in
          cc (sym none ∙ b.breaks)
      valid_none editable wrote (Broken role.Changed cause) reason =
          let b = reason.1 in
          let none = unbroken_from_feasible b.tables b.a0 b.a
          (editable.valid.changed b.named b.tables b.a0 b.a b.accepts) in
          cc (sym none ∙ b.breaks.1)
      valid_none editable wrote Write reason = wrote _ reason.run.text
      valid_none editable wrote refusal reason = reason

    module _ (written : Type 0) (before now : Faults) where
      -- what each of its own statuses says
      reason_bad : (refusal : Refusal) → Reason held names before now (EditOwn held names written) refusal →
          status_of refusal ≡ BadEdits → (fault : EditsFault) × EditsRefused held names fault
      unfolding status_of
      reason_bad (Edits fault) reason e = (fault, reason)
      reason_bad refusal reason e = cc

      reason_broken : (refusal : Refusal) →
          Reason held names before now (EditOwn held names written) refusal → status_of refusal ≡ Infeasible →
          EditsAccepted held names × ((which : Role) × (cause : Cause) × RoleBreaks held names which cause)
      unfolding status_of
      reason_broken (Broken which cause) reason e = (reason.0, (which, cause, reason.1))
      reason_broken refusal reason e =
          cc

module _ (i : Tables) (a0 a : List Machine) where
  -- the run of edits of an instance and two lists
  pub outcome_edited : (e : EditLists) (o : Outcome) (sent : List ℕ → Type 0) →
      IsOutcome i a0 a e o → sent (edited_outcome_text i o) → IsRunOfEdits i a0 a e sent
  unfolding edited_draft text_left edits_output edited_outcome_text
  outcome_edited e o sent h text =
      let d : Drafted = left_in i o.left in
      record {
        start = h.start;
        current = h.current;
        limits = subst (λ (x : Drafted). WellFormed (instance_of x)) h.left h.writable.sound.well_formed;
        accepted = subst (λ (x : Drafted). model_refusal (model_text (instance_of x)) ≡ None) h.left
            (text_accepted_whole (instance_of d) h.writable.sound.well_formed h.writable.small);
        left = subst (λ (x : Drafted). Feasible (instance_of x) x.initial x.current) h.left h.writable.feasible;
        text = subst (λ (x : Drafted). sent (text_left (draft_of i a0 a) x e)) h.left
            (subst (λ (r : List EditReply). sent (edited_text (instance_of d) d.initial d.current r)) h.replies text);
      }

  pub outcome_is : (e : EditLists) (made d : Drafted) (o : Outcome) →
      Feasible i a0 a0 → Feasible i a0 a → made ≡ draft_of i a0 a → d ≡ after_edits made e (length e.edits) →
      d.origin ≡ made.origin → left_in d.origin o.left ≡ d → o.replies.items ≡ replies_to made e (length e.edits) →
      IsSoundDraft d → Small (instance_of d) → Feasible (instance_of d) d.initial d.current →
      o.parts ≡ parts_of (instance_of d) d.initial d.current → IsOutcome i a0 a e o
  unfolding edited_draft
  outcome_is e made d o start current from run origin lists answers sound small feasible parts =
      let same : d.origin ≡ i = origin ∙ ap (λ (x : Drafted). x.origin) from in
      let left : left_in i o.left ≡ d = subst (λ (j : Tables). left_in j o.left ≡ d) same lists in
      record {
        start = start;
        current = current;
        left = left ∙ (run ∙ ap (λ (x : Drafted). after_edits x e (length e.edits)) from);
        replies = answers ∙ ap (λ (x : Drafted). replies_to x e (length e.edits)) from;
        writable = record {
          sound = subst IsSoundDraft (sym left) sound;
          small = subst (λ (x : Drafted). Small (instance_of x)) (sym left) small;
          feasible = subst (λ (x : Drafted). Feasible (instance_of x) x.initial x.current) (sym left) feasible;
          parts = subst (λ (x : Drafted). o.parts ≡ parts_of (instance_of x) x.initial x.current) (sym left) parts;
        };
      }

  pub over_more : (broke written : Type 0) (step : broke → written) (refusal : Refusal) → WriteReason broke refusal →
      JudgeReason i a0 a written refusal
  over_more broke written step Write reason = step reason
  over_more broke written step Memory reason = tt
  over_more broke written step refusal reason = absurd reason

pub outcome_written : (i j : Tables) (o : Outcome) (a0 a : List Machine) (sent : List ℕ → Type 0) →
    AreSameLists (instance_of (left_in i o.left)) j → a0 ≡ o.left.initial.items → a ≡ o.left.current.items →
    parts_of j a0 a ≡ parts_of (instance_of (left_in i o.left)) o.left.initial.items o.left.current.items →
    sent (edited_text j a0 a o.replies.items) → sent (edited_outcome_text i o)
unfolding edited_outcome_text
outcome_written i j o a0 a sent same first second parts text =
    subst sent (left_text (left_in i o.left) j a0 a o.replies.items same first second parts) text

module _ {held : Held} {names : Names} {before now : Faults} where
  pub complete_edits : {sent : List ℕ → Type 0} {output : Type 0} {tells : List ℕ →
      Type 0} {out_same err_same : Type 0} {status : Status} → Ends held names before now output (EditOwn held names
      (Edited held names sent)) tells out_same err_same status → AreEditable held names → NoFault names before now →
      ((text : List ℕ) → sent text → ⊥) → (status ≡ Done) ⊎ (status ≡ NoMemory)
  complete_edits {sent} ends editable sound wrote =
      complete ends editable.valid.accepted sound (valid_none held names sent editable wrote)

  -- a job that isn't done has a status that its own refusals give it, or that of memory
  stops : {output : Type 0} {own : Refusal → Type 0}
      {tells : List ℕ → Type 0} {out_same err_same : Type 0} {status : Status} →
      Ends held names before now output own tells out_same err_same status → EndsAt names file.Edits →
      KnownTo held names before now file.Edits → Listed held names → (this : Status) → (output → ⊥) →
      ((refusal : Refusal) → own refusal → status_of refusal ≡ this) → (status ≡ this) ⊎ (status ≡ NoMemory)
  stops {output} {own} {tells} {out_same} {err_same} {status} ends last known listed this
      undone step = ⊎_elim
      (λ done. absurd (undone (ends.printed done)))
      (λ other.
      let refused = ends.refused other in
      ⊎_elim
      (λ reason. inl (refused.is ∙ step refused.refusal reason))
      (λ memory. inr (refused.is ∙ memory))
      (own_known held names before now own file.Edits known (λ f named _. last f named) listed refused.refusal
      refused.reason))
      (is_done status)

pub edit_comes : {held : Held} {before now : Faults} {tells : List ℕ → Type 0} {out_same err_same : Type 0}
    {status : Status} (names : Names) (prints breaks : List ℕ → Type 0) → EndsAt names file.Edits →
    Ends held names before now (Edited held names prints) (EditOwn held names (Edited held names breaks)) tells out_same
    err_same status → EditComes held names before now status
edit_comes {held} {before} {now} {tells} {out_same} {err_same} {status} names prints breaks last ends =
    record {
      bad_edits = record {
        only = λ is.
            let refused = ends.refused (λ done. cc) in
            reason_bad held names _ before now refused.refusal refused.reason
            (sym refused.is ∙ is);
        always = λ known cause.
            let r = cause.1 in
            stops ends last known (record { tables = r.tables; a0 = r.a0; a = r.a; accepts = r.accepts }) BadEdits
            (λ o. not_both held names before now known cause.0 r
            (accepted_of held names o.tables o.a0 o.a o.edits o.taken))
            (bad_own held names before now breaks known cause.0 r);
      };
      infeasible = record {
        only = λ is.
            let refused = ends.refused (λ done. cc) in
            reason_broken held names _ before now refused.refusal refused.reason
            (sym refused.is ∙ is);
        always = λ known cause.
            let r = cause.0 in
            stops ends last known (record { tables = r.tables; a0 = r.a0; a = r.a; accepts = r.accepts }) Infeasible
            (λ o. breaks_never held names before now known cause.1.0 cause.1.1 cause.1.2
            (edited_went held names prints o))
            (broken_own held names before now breaks known r cause.1.0 cause.1.1 cause.1.2);
      };
    }

pub edit_so : (names : Names) → EndsAt names file.Edits → (files : Reading) (out err : Output)
    (ended : Result (Unit {0}) Refusal) (status : Status) → Tries (over (editing names)) files out ended →
    Finishes names ended err status → Does (over (editing names)) files out err status
edit_so names last files out err ended status tries finishes =
    let c = editing names in
    let prints = Took out.sink in
    let breaks = BrokeOff out.sink in
    let ends = finished c files out err ended status tries finishes in
    does_so c files out err status ends
    (edited_listed files.held names prints)
    (own_listed files.held names breaks)
    (edit_comes names prints breaks last ends)
    (λ editable sound wrote. complete_edits ends editable sound (λ text broken. wrote broken.1))
    (left_so c files out err ended status tries finishes)

pub edit_memory : (names : Names) (files : Reading) (out err : Output) (status : Status) → status ≡ NoMemory →
    ((names : Names) → Put err.sink (refusal_line names Memory)) → out.same → Leaves files out err →
    Does (over (editing names)) files out err status
edit_memory names files out err status is line same leaves =
    memory_refused _ files out err status is line same leaves
    (edit_not files.held names files.before files.after status is) (inr is)
