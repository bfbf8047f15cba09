-- Why the stages of a job refuse, from what the readers answer.
use Rattle.std.proofs.Common.{◌≡◌, ℕ, ◌<◌, ◌≤◌, List, [], Option, Some, None, IfSome, IsSome, refl, sym, subst, inl, inr, ⊎_elim, arith, ◌∙◌, le_trans}
use Rattle.std.specs.Prelude.{IsTrue, unwrap_or}
use Rattle.ra_base.specs.declared.causes.Cause.{Cause}
use Rattle.ra_base.specs.declared.costs.Parts.{Parts}
use Rattle.ra_base.specs.declared.ids.Machine.{Machine}
use Rattle.ra_bounds.specs.declared.costs.Bound.{Bound}
use Rattle.ra_bounds.specs.PinnedBounds.{pinned_bound_of}
use Rattle.ra_io.specs.Faults.{Rose}
use Rattle.ra_io.specs.Outside.{LeavesFiles}
use Rattle.ra_model.specs.declared.raw.Tables.{Tables}
use Rattle.ra_model_read.specs.declared.faults.ModelFault.{ModelFault}
use Rattle.ra_model_read.specs.declared.faults.ModelFault.TheVariants as reader
use Rattle.ra_model_read.specs.ModelText.{model_refusal}
use Rattle.ra_model_read.specs.Reading.{is_by_content}
use Rattle.ra_assign.specs.declared.faults.AssignFault.{AssignFault}
use Rattle.ra_assign.specs.declared.faults.AssignFault.TheVariants as assigner
use Rattle.ra_assign.specs.declared.faults.ClosedFault.{ClosedFault}
use Rattle.ra_assign.specs.declared.faults.ClosedFault.TheVariants as closer
use Rattle.ra_assign.specs.Answers.{IsAssignRefusal, IsClosedRefusal}
use Rattle.ra_report.specs.Texts.{parts_text}
use Rattle.ra_jobs.specs.declared.refusals.File.TheVariants as file
use Rattle.ra_jobs.specs.declared.refusals.Refusal.{Refusal}
use Rattle.ra_jobs.specs.declared.refusals.Refusal.TheVariants.{Read, Model, Closed, Assign, Broken, Write, Memory}
use Rattle.ra_jobs.specs.declared.refusals.Role.{Role}
use Rattle.ra_jobs.specs.declared.refusals.Role.TheVariants as role
use Rattle.ra_jobs.specs.Files.{Held, Faults, Names, name_of, file_of, IsNamed, ModelIs, InstanceIs, ListIs, NamedListIs, Accepts, bound_names}
use Rattle.ra_jobs.specs.Outputs.{CheckPrinted, BoundIs, BoundRead}
use Rattle.ra_jobs.specs.Refusals.{Reason, Judges, OnlyWrites, Nothing, CanTell, ReadBefore, FileReadFailed, RoleRefused, Breaks, RoleBreaks}
use Rattle.ra_jobs.specs.Stages.{model_as, closed_as, list_as, ClosedReason, SourceReason, ListReason, ListsReason, JudgeReason, StartReason, IsClosing, IsList, IsAcceptedStart, ReadsLists, Passed, Judged}
use Rattle.ra_jobs.proofs.ComesLemmas.{list_none}
use Rattle.ra_jobs.proofs.MeaningLemmas.{list_in}

-- what two calls leave of files, one after the other
pub leaves_both : {held mid last : Held} {before then now : Faults} → LeavesFiles (record {
  held = held;
  held_after =
      mid;
  before = before;
  after = then;
}) → LeavesFiles (record {
  held = mid;
  held_after = last;
  before = then;
  after =
      now;
}) → LeavesFiles (record { held = held; held_after = last; before = before; after = now })
leaves_both one two = record {
  kept = λ other. two.kept other ∙ one.kept other;
  never_fall = λ other. le_trans (one.never_fall other) (two.never_fall other);
}

-- a count that rose later rose
pub rose_later : (a b c : ℕ) → a ≤ b → Rose b c → Rose a c
rose_later a b c never_fell rose =
    ⊎_elim (λ more. let h : a < c = omega arith in inl h) (λ last. inr last) rose

-- it has no list
no_role_in : (name : List ℕ) (closed : Option (List ℕ)) (which : Role) →
    IsNamed (bound_names name None closed) (file_of which) → ⊥
no_role_in name closed role.Initial named = cc
no_role_in name closed role.Changed named = cc

-- the lists of both roles are named
both_named : (names : Names) → IsNamed names file.Initial → IsNamed names file.Changed → (which : Role) →
    IsNamed names (file_of which)
both_named names initial changed role.Initial = initial
both_named names initial changed role.Changed = changed

-- what refuses can be told

some_of : (name : Option (List ℕ)) (list : List ℕ) → name ≡ Some list → IsSome name
some_of name list is = rw is refl

writes_tell : (names : Names) (written : Type 0) (refusal : Refusal) → OnlyWrites written refusal →
    CanTell names refusal
writes_tell names written Write reason = tt
writes_tell names written refusal reason = absurd reason

module _ (held : Held) where
  module _ (later : Held) (name : List ℕ) (closed : Option (List ℕ)) (list : List ℕ) (model : Tables) where
    pub instance_closed : (i : Tables) → ((other : List ℕ) → later other ≡ held other) → closed ≡ Some list →
        ModelIs held name model → IsClosing later list model i → InstanceIs held name closed i
    instance_closed i same named read closing = record {
      model = model;
      read = read;
      closed = rw named (closing.0, closing.1, rw (sym (same list)) closing.2);
    }

    module _ (first before now : Faults) (same : (other : List ℕ) → later other ≡ held other)
        (never_fell : (other : List ℕ) → first other ≤ before other) (named : closed ≡ Some list)
        (read : ModelIs held name model) where
      pub source_closed : (refusal : Refusal) → ClosedReason later list model before now refusal →
          SourceReason held name closed first now refusal
      unfolding name_of
      source_closed (Read file.Closed) reason =
          record {
            earlier = (model, read);
            named = rw named refl;
            rose = rw named (rose_later (first list) _ (now list) (never_fell list) reason);
          }
      source_closed (Closed fault) reason =
          record {
            model = model;
            read = read;
            name = list;
            named = named;
            in_file = reason.0;
            refused = rw (sym (same list)) reason.1;
          }
      source_closed Memory reason = tt
      source_closed refusal reason =
          absurd reason

  module _ (name : List ℕ) where
    module _ (before now : Faults) where
      pub model_reason : (fault : ModelFault) → (fault ≡ reader.ReadFault → Rose (before name) (now name)) →
          (IsTrue (is_by_content fault) → IfSome (held name) (λ bytes. model_refusal bytes ≡ Some fault)) →
          SourceReason held name None before now (model_as fault)
      unfolding is_by_content name_of
      model_reason reader.ReadFault rose told = record { earlier = tt; named = tt; rose = rose refl }
      model_reason reader.NoMemory rose told = tt
      model_reason fault rose told = record { in_file = (λ e. cc, λ e. cc); refused = told refl }

    module _ (i : Tables) (before now : Faults) where
      pub closed_reason : (fault : ClosedFault) → (fault ≡ closer.ReadFault → Rose (before name) (now name)) →
          IfSome (held name) (λ bytes. IsClosedRefusal bytes i fault) → ClosedReason held name i before now
          (closed_as fault)
      closed_reason closer.ReadFault rose told = rose refl
      closed_reason closer.NoMemory rose told = tt
      closed_reason fault rose told = ((λ e. cc, λ e. cc), told)

    -- the instance

    pub instance_open : (closed : Option (List ℕ)) (i : Tables) → ModelIs held name i →
        closed ≡ None → InstanceIs held name closed i
    instance_open closed i read none = record { model = i; read = read; closed = rw none refl }

    module _ (closed : Option (List ℕ)) (before now : Faults) where
      -- what was refused before the closed list was read
      pub source_model : (refusal : Refusal) →
          SourceReason held name None before now refusal → SourceReason held name closed before now refusal
      unfolding name_of
      source_model (Read file.Model) reason =
          record { earlier = tt; named = tt; rose = reason.rose }
      source_model (Read file.Closed) reason = absurd (let none = reason.named in cc)
      source_model (Read file.Initial) reason = absurd (let none = reason.named in cc)
      source_model (Read file.Changed) reason = absurd (let none = reason.named in cc)
      source_model (Read file.Report) reason = absurd (let none = reason.named in cc)
      source_model (Read file.Edits) reason = absurd (let none = reason.named in cc)
      source_model (Model fault) reason = reason
      source_model (Closed fault) reason = absurd (let none = reason.named in cc)
      source_model (Assign which fault) reason =
          absurd (no_role_in name None which reason.named)
      source_model Memory reason = tt
      source_model refusal reason = absurd reason

  module _ (names : Names) where
    pub judges_more : (written more : Type 0) → (written → more) → (refusal : Refusal) →
        Judges held names written refusal → Judges held names more refusal
    judges_more written more step Write reason = step reason
    judges_more written more step refusal reason = reason

    judges_tell : (written : Type 0) (refusal : Refusal) → Judges held names written refusal → CanTell names refusal
    judges_tell written (Broken which cause) reason = reason.named
    judges_tell written Write reason = tt
    judges_tell written refusal reason = absurd reason

    module _ (before now : Faults) where
      module _ (own more : Refusal → Type 0) (step : (r : Refusal) → own r → more r) where
        -- the reason of a refusal, if more is said of the job's own

        pub reason_more : (refusal : Refusal) → Reason held names before now own refusal →
            Reason held names before now more refusal
        reason_more (Read f) reason = reason
        reason_more (Model fault) reason = reason
        reason_more (Closed fault) reason = reason
        reason_more (Assign which fault) reason = reason
        reason_more Memory reason = reason
        reason_more refusal reason = step refusal reason

      module _ (own : Refusal → Type 0) where
        pub reason_source : (refusal : Refusal) →
            SourceReason held names.model names.closed before now refusal → Reason held names before now own refusal
        unfolding name_of
        reason_source (Read file.Model) reason =
            record { earlier = tt; named = tt; rose = reason.rose }
        reason_source (Read file.Closed) reason =
            record { earlier = reason.earlier; named = reason.named; rose = reason.rose }
        reason_source (Read file.Initial) reason = absurd (let none = reason.named in cc)
        reason_source (Read file.Changed) reason = absurd (let none = reason.named in cc)
        reason_source (Read file.Report) reason = absurd (let none = reason.named in cc)
        reason_source (Read file.Edits) reason = absurd (let none = reason.named in cc)
        reason_source (Model fault) reason = reason
        reason_source (Closed fault) reason = reason
        reason_source (Assign which fault) reason =
            absurd (no_role_in names.model names.closed which reason.named)
        reason_source Memory reason = tt
        reason_source refusal reason = absurd reason

        -- a refusal before any list was judged, and one before anything was written

        pub reason_anywhere : (refusal : Refusal) →
            Reason held names before now Nothing refusal → Reason held names before now own refusal
        reason_anywhere refusal reason =
            reason_more Nothing own (λ r none. absurd none) refusal reason

        -- if the job's own can
        pub can_tell : ((r : Refusal) → own r → CanTell names r) → (refusal : Refusal) →
            Reason held names before now own refusal → CanTell names refusal
        can_tell tells (Read f) reason = reason.named
        can_tell tells (Model fault) reason = reason.in_file
        can_tell tells (Closed fault) reason =
            (some_of names.closed reason.name reason.named, reason.in_file)
        can_tell tells (Assign which fault) reason = (reason.named, reason.refused.in_file)
        can_tell tells Memory reason = tt
        can_tell tells refusal reason = tells refusal reason

      pub reason_unwritten : (written : Type 0) (refusal : Refusal) →
          Reason held names before now (Judges held names ⊥) refusal →
          Reason held names before now (Judges held names written) refusal
      reason_unwritten written refusal reason = reason_more (Judges held names ⊥)
          (Judges held names written) (judges_more ⊥ written absurd) refusal reason

      pub can_tell_judged : (written : Type 0) (refusal : Refusal) →
          Reason held names before now (Judges held names written) refusal → CanTell names refusal
      can_tell_judged written =
          can_tell (Judges held names written) (judges_tell written)

      pub can_tell_written : (written : Type 0) (refusal : Refusal) →
          Reason held names before now (OnlyWrites written) refusal → CanTell names refusal
      can_tell_written written =
          can_tell (OnlyWrites written) (writes_tell names written)

    -- the lists

    -- what was done before a list of a job is read
    list_earlier : (which : Role) (i : Tables) (a0 : List Machine) → InstanceIs held names.model names.closed i →
        (which ≡ role.Changed → NamedListIs held names.initial i a0) → ReadBefore held names (file_of which)
    list_earlier role.Initial i a0 instance earlier = (i, instance)
    list_earlier role.Changed i a0 instance earlier = (i, a0, instance, earlier refl)

    module _ (i : Tables) (a0 a : List Machine) where
      pub breaks_role : IsNamed names file.Initial → IsNamed names file.Changed → Accepts held names i a0 a →
          (which : Role) (cause : Cause) → Breaks i a0 a which cause → RoleBreaks held names which cause
      breaks_role initial changed accepts which cause breaks = record {
        tables = i;
        a0 = a0;
        a = a;
        start_named = initial;
        named = both_named names initial changed which;
        accepts = accepts;
        breaks = breaks;
      }

      module _ (first now : Faults) (written : Type 0) (initial : IsNamed names file.Initial)
          (changed : IsNamed names file.Changed) (accepts : Accepts held names i a0 a) where
        pub reason_judge : (refusal : Refusal) → JudgeReason i a0 a written refusal →
            Reason held names first now (Judges held names written) refusal
        reason_judge (Broken which cause) reason =
            breaks_role initial changed accepts which cause reason
        reason_judge Write reason = reason
        reason_judge Memory reason = tt
        reason_judge refusal reason = absurd reason

      pub passed_all : (parts : Parts) → Accepts held names i a0 a → Judged i a0 a parts → Passed held names parts
      passed_all parts accepts judged = record {
        tables = i;
        a0 = a0;
        a = a;
        passes = record { accepts = accepts; initial = judged.initial; changed = judged.changed };
        parts_are = judged.parts_are;
      }

    pub breaks_start : (i : Tables) (a0 : List Machine) → IsNamed names file.Initial → Accepts held names i a0 a0 →
        (cause : Cause) → Breaks i a0 a0 role.Initial cause → RoleBreaks held names role.Initial cause
    breaks_start i a0 initial accepts cause breaks = record {
      tables = i;
      a0 = a0;
      a = a0;
      start_named = initial;
      named = initial;
      accepts = accepts;
      breaks = breaks;
    }

    -- the text of the parts was sent
    pub printed : (parts : Parts) (sent : List ℕ → Type 0) → Passed held names parts →
        sent (parts_text parts) → CheckPrinted held names sent
    printed parts sent passed text = record {
      tables = passed.tables;
      a0 = passed.a0;
      a = passed.a;
      passes = passed.passes;
      text = rw (sym passed.parts_are) text;
    }

  -- a list that was read, in the words of the files
  named_list : (later : Held) (named : Option (List ℕ)) (i : Tables) (a : List Machine) → ((other : List ℕ) →
      later other ≡ held other) → IsSome named → ListIs later (unwrap_or named []) i a → NamedListIs held named i a
  named_list later None i a same some is = absurd (cc)
  named_list later (Some name) i a same some is = rw (sym (same name)) is

  -- the bound of the files

  bound_same : (later : Held) (named : Option (List ℕ)) (i : Tables) (bound : Bound) →
      ((other : List ℕ) → later other ≡ held other) → BoundIs later named i bound → BoundIs held named i bound
  bound_same later None i bound same is = is
  bound_same later (Some name) i bound same is = (is.0, rw (sym (same name)) is.1, is.2, is.3)

  module _ (later : Held) (names : Names) where
    module _ (which : Role) (i : Tables) (a0 : List Machine) (first before now : Faults) (own : Refusal →
        Type 0) (same : (other : List ℕ) → later other ≡ held other) (never_fell : (other : List ℕ) →
        first other ≤ before other) (named : IsNamed names (file_of which))
        (instance : InstanceIs held names.model names.closed i) (earlier : which ≡ role.Changed →
        NamedListIs held names.initial i a0) where
      pub reason_list : (refusal : Refusal) →
          ListReason which later (name_of names (file_of which)) i before now refusal →
          Reason held names first now own refusal
      reason_list (Read f) reason =
          subst (FileReadFailed held names first now) (sym reason.0) (record {
            earlier = list_earlier names which i a0 instance earlier;
            named = named;
            rose = rose_later _ _ _ (never_fell (name_of names (file_of which))) reason.1;
          })
      reason_list (Assign one fault)
          reason = subst (λ (w : Role). RoleRefused held names w fault) (sym reason.0) (record {
            tables = i;
            a0 = a0;
            instance = instance;
            earlier = earlier;
            named = named;
            refused = record {
              in_file = reason.1.in_file;
              refused = rw (sym (same (name_of names (file_of which)))) reason.1.refused;
            };
          })
      reason_list Memory reason = tt
      reason_list refusal reason =
          absurd reason

    pub list_read : (which : Role) (i : Tables) (a : List Machine) →
        ((other : List ℕ) → later other ≡ held other) → IsNamed names (file_of which) →
        ListIs later (name_of names (file_of which)) i a → NamedListIs held (list_in names which) i a
    unfolding name_of
    list_read role.Initial i a same named is = named_list later names.initial i a same named is
    list_read role.Changed i a same named is = named_list later names.changed i a same named is

    pub bound_read : (i : Tables) (bound : Bound) → ((other : List ℕ) → later other ≡ held other) →
        InstanceIs held names.model names.closed i → BoundIs later names.initial i bound → BoundRead held names bound
    bound_read i bound same instance is = record {
      tables = i;
      instance = instance;
      is = bound_same later names.initial i bound same is;
    }

    -- the lists of a check

    pub reason_lists : (i : Tables) (first before now : Faults) (own : Refusal → Type 0) → ((other : List ℕ) →
        later other ≡ held other) → ((other : List ℕ) → first other ≤ before other) → IsNamed names file.Initial →
        IsNamed names file.Changed → InstanceIs held names.model names.closed i → (refusal : Refusal) →
        ListsReason later names i before now refusal → Reason held names first now own refusal
    reason_lists i first before now own same never_fell initial changed instance refusal reason = ⊎_elim
        (λ one.
        reason_list role.Initial i [] first before now own same never_fell initial instance
        (λ e. absurd (cc)) refusal one)
        (λ two.
        reason_list role.Changed i two.0 first before now own same never_fell changed instance
        (λ _. list_read role.Initial i two.0 same initial two.1) refusal two.2)
        reason

    -- all files of a check were accepted
    pub accepts_all : (i : Tables) (a0 a : List Machine) →
        ((other : List ℕ) → later other ≡ held other) → IsNamed names file.Initial → IsNamed names file.Changed →
        InstanceIs held names.model names.closed i → ReadsLists later names i a0 a → Accepts held names i a0 a
    accepts_all i a0 a same initial changed instance lists = record {
      instance = instance;
      initial = list_read role.Initial i a0 same initial lists.initial.0;
      changed = list_read role.Changed i a same changed lists.changed.0;
    }

    -- the initial list of a run

    -- the instance and the initial list were read
    pub starts : (i : Tables) (a0 : List Machine) → ((other : List ℕ) → later other ≡ held other) →
        IsNamed names file.Initial → (IsNamed names file.Changed → ⊥) → InstanceIs held names.model names.closed i →
        IsList later (name_of names file.Initial) i a0 → IsAcceptedStart held names i a0
    starts i a0 same initial alone instance list = record {
      accepts = record {
        instance = instance;
        initial = list_read role.Initial i a0 same initial list.0;
        changed = list_none held names.changed i a0 alone;
      };
      fits = list.1;
    }

  -- what is said of what the files hold later is so of what they hold now
  pub list_now : (later : Held) (name : List ℕ) (i : Tables) (a : List Machine) →
      ((other : List ℕ) → later other ≡ held other) → IsList later name i a → IsList held name i a
  list_now later name i a same list = (rw (sym (same name)) list.0, list.1)

  pub bound_is : (named : Option (List ℕ)) (i : Tables) (a0 : List Machine) (bound : Bound) → IsSome named →
      IsList held (unwrap_or named []) i a0 → bound ≡ pinned_bound_of i a0 → BoundIs held named i bound
  bound_is None i a0 bound some list is = absurd (cc)
  bound_is (Some name) i a0 bound some list is = (a0, list.0, list.1, is)

module _ (which : Role) (held : Held) (name : List ℕ) (i : Tables) (before now : Faults) where
  pub list_reason : (fault : AssignFault) → (fault ≡ assigner.ReadFault → Rose (before name) (now name)) →
      IfSome (held name) (λ bytes. IsAssignRefusal bytes i fault) →
      ListReason which held name i before now (list_as which fault)
  list_reason assigner.ReadFault rose told = (refl, rose refl)
  list_reason assigner.NoMemory rose told = tt
  list_reason fault rose told = (refl, record { in_file = (λ e. cc, λ e. cc); refused = told })

module _ (which : Role) (held later : Held) (name : List ℕ) (i : Tables) (first before now : Faults)
    (same : (other : List ℕ) → later other ≡ held other) (never_fell : (other : List ℕ) →
    first other ≤ before other) where
  pub list_later : (refusal : Refusal) → ListReason which later name i before now refusal →
      ListReason which held name i first now refusal
  list_later (Read f) reason =
      (reason.0, rose_later _ _ _ (never_fell name) reason.1)
  list_later (Assign one fault) reason = (
    reason.0,
    record { in_file = reason.1.in_file; refused = rw (sym (same name)) reason.1.refused },
  )
  list_later Memory reason = tt
  list_later refusal reason = absurd reason

module _ (i : Tables) (a0 a : List Machine) (written : Type 0) where
  -- the reason of the initial list is one of both
  pub judge_start_reason : (refusal : Refusal) → StartReason i a0 written refusal → JudgeReason i a0 a written refusal
  judge_start_reason (Broken role.Changed cause) reason = absurd reason
  judge_start_reason refusal reason = reason

  -- and if more is said of what was written
  pub judge_more : (more : Type 0) → (written → more) → (refusal : Refusal) →
      JudgeReason i a0 a written refusal → JudgeReason i a0 a more refusal
  judge_more more step Write reason = step reason
  judge_more more step refusal reason = reason
