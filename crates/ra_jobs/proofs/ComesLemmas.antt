-- When each status comes, from how a job ends.
use Rattle.std.specs.Prelude.{unwrap_or}
use Rattle.std.proofs.Common.{◌≡◌, ◌≢◌, ◌⊎◌, ℕ, true, false, List, [], Option, Some, None, IsSome, inl, inr, ⊎_elim, refl, sym, ◌∙◌, subst, le_trans}
use Rattle.std.proofs.lemmas.Bool.{cases_Bool, leb-true, le-leb}
use Rattle.ra_base.specs.declared.causes.Cause.{Cause}
use Rattle.ra_base.specs.declared.ids.Machine.{Machine}
use Rattle.ra_bounds.specs.declared.costs.Bound.{Bound}
use Rattle.ra_model.specs.declared.raw.Tables.{Tables}
use Rattle.ra_model.specs.Feasible.{Feasible}
use Rattle.ra_model_read.specs.declared.faults.ModelFault.{ModelFault}
use Rattle.ra_assign.specs.declared.faults.AssignFault.{AssignFault}
use Rattle.ra_assign.specs.declared.faults.ClosedFault.{ClosedFault}
use Rattle.ra_jobs.specs.declared.refusals.File.{File}
use Rattle.ra_jobs.specs.declared.refusals.File.TheVariants as file
use Rattle.ra_jobs.specs.declared.refusals.Refusal.{Refusal}
use Rattle.ra_jobs.specs.declared.refusals.Refusal.TheVariants.{Read, Model, Closed, Assign, Broken, Unrepaired as Repaired, Write, Memory}
use Rattle.ra_jobs.specs.declared.refusals.Role.{Role}
use Rattle.ra_jobs.specs.declared.refusals.Role.TheVariants as role
use Rattle.ra_jobs.specs.declared.status.Status.{Status}
use Rattle.ra_jobs.specs.declared.status.Status.TheVariants.{Done, ReadFault, BadModel, BadAssignment, Infeasible, WriteFault, NoMemory, BadClosed, Unrepaired}
use Rattle.ra_jobs.specs.Comes.{KnownTo, Comes, InfeasibleComes}
use Rattle.ra_jobs.specs.Ends.{puts_first}
use Rattle.ra_jobs.specs.Files.{Held, Faults, Names, name_of, file_of, is_up_to, IsNamed, EndsAt, ModelIs, InstanceIs, NamedListIs, Accepts, Passes}
use Rattle.ra_jobs.specs.Outputs.{CheckPrinted, BoundIs, BoundPrinted}
use Rattle.ra_jobs.specs.Refusals.{Reason, Judges, OnlyWrites, ReadBefore, FileReadFailed, ModelRefused, ClosedRefused, RoleRefused, RoleBreaks}
use Rattle.ra_jobs.specs.Statuses.{status_of}
use Rattle.ra_jobs.proofs.CompleteLemmas.{is_done}
use Rattle.ra_jobs.proofs.EndLemmas.{Ends}
use Rattle.ra_jobs.proofs.MeaningLemmas.{Told, list_in, of_role, no_model, no_closed, no_role, no_break}

-- all files of a job before the edits and the report were accepted
pub record Listed (held : Held) (names : Names) : Type 0 where
  pub tables : Tables
  pub a0 : List Machine
  pub a : List Machine
  pub accepts : Accepts held names tables a0 a

-- and those of its lists that are named are feasible
pub record Went (held : Held) (names : Names) : Type 0 where
  pub listed : Listed held names
  pub initial : IsSome names.initial → Feasible listed.tables listed.a0 listed.a0
  pub changed : IsSome names.changed → Feasible listed.tables listed.a0 listed.a

module _ (held : Held) (names : Names) (before now : Faults) (own : Refusal → Type 0) where
  -- what each status says that any job may have
  abbrev CauseOf : Status → Type 0
  CauseOf ReadFault = (f : File) × FileReadFailed held names before now f
  CauseOf BadModel = (fault : ModelFault) × ModelRefused held names.model fault
  CauseOf BadClosed = (fault : ClosedFault) × ClosedRefused held names.model names.closed fault
  CauseOf BadAssignment =
      (which : Role) × (fault : AssignFault) × RoleRefused held names which fault
  CauseOf WriteFault = own Write
  CauseOf status = Unit {0}

-- ---- what is known of files

-- a file before another one is read up to where that is
up_to_more : (f g last : File) → is_up_to f g ≡ true → is_up_to g last ≡ true → is_up_to f last ≡ true
up_to_more f g last one two =
    le-leb _ _ (le_trans (leb-true _ _ one)
    (leb-true _ _ two))

model_first : (last : File) → is_up_to file.Model last ≡ true
model_first file.Model = refl
model_first last = refl

-- a file that a job may not have is told, if it has it
pub told_of : (held : Held) (named : Option (List ℕ)) (X : Type 0) →
    (IsSome named → IsSome (held (unwrap_or named [])) × X) → Told held named
told_of held named X known name is =
    subst (λ (o : Option (List ℕ)). IsSome (held (unwrap_or o []))) is (known (subst IsSome (sym is) refl)).0

module _ (held : Held) (names : Names) where
  -- ---- the files of a job, one after another: the edits and the report are the job's own

  -- a file is refused
  abbrev pub IsRefusedAt : File → Type 0
  IsRefusedAt file.Model = (fault : ModelFault) × ModelRefused held names.model fault
  IsRefusedAt file.Closed = (fault : ClosedFault) × ClosedRefused held names.model names.closed fault
  IsRefusedAt file.Initial = (fault : AssignFault) × RoleRefused held names role.Initial fault
  IsRefusedAt file.Changed = (fault : AssignFault) × RoleRefused held names role.Changed fault
  IsRefusedAt f = ⊥

  -- it and all before it were accepted
  abbrev pub IsReadAt : File → Type 0
  IsReadAt file.Model = (i : Tables) × ModelIs held names.model i
  IsReadAt file.Closed = (i : Tables) × InstanceIs held names.model names.closed i
  IsReadAt file.Initial =
      (i : Tables) × (a0 : List Machine) × InstanceIs held names.model names.closed i
      × NamedListIs held names.initial i a0
  IsReadAt f = Listed held names

-- ---- If the cause of one status holds, the reason of another doesn't

-- the status if a file is refused; of the edits and the report it doesn't matter
abbrev bad_status : File → Status
bad_status file.Model = BadModel
bad_status file.Closed = BadClosed
bad_status f = BadAssignment

same_status : (f g : File) → is_up_to f g ≡ true → is_up_to g f ≡ true → bad_status f ≡ bad_status g
same_status file.Model file.Model one two = refl
same_status file.Closed file.Closed one two = refl
same_status file.Closed file.Model one two = cc
same_status file.Model g one two = cc
same_status file.Closed g one two = cc
same_status f file.Model one two = cc
same_status f file.Closed one two = cc
same_status f g one two = refl

role_first : (which : Role) → is_up_to (file_of which) file.Edits ≡ true
role_first role.Initial = refl
role_first role.Changed = refl

-- if a job has no list in a role, any will do
pub list_none : (held : Held) (named : Option (List ℕ)) (i : Tables) (a : List Machine) → (IsSome named → ⊥) →
    NamedListIs held named i a
list_none held None i a none = tt
list_none held (Some name) i a none = absurd (none refl)

-- a job that ends at the initial list has no other
pub alone_at : (names : Names) → EndsAt names file.Initial → IsNamed names file.Changed → ⊥
alone_at names ends named = cc (ends file.Changed named)

bound_start : (held : Held) (named : Option (List ℕ)) (i : Tables) (bound : Bound) → BoundIs held named i bound →
    (a0 : List Machine) × NamedListIs held named i a0
bound_start held None i bound is = ([], tt)
bound_start held (Some name) i bound is = (is.0, is.1)

module _ (held : Held) (names : Names) where
  pub passed_went : (i : Tables) (a0 a : List Machine) → Passes held names i a0 a → Went held names
  passed_went i a0 a passes = record {
    listed = record { tables = i; a0 = a0; a = a; accepts = passes.accepts };
    initial = λ named. passes.initial;
    changed = λ named. passes.changed;
  }

  -- all lists were
  listed_read : (f : File) → Listed held names → IsReadAt held names f
  listed_read file.Model done = (done.accepts.instance.model, done.accepts.instance.read)
  listed_read file.Closed done = (done.tables, done.accepts.instance)
  listed_read file.Initial done = (done.tables, done.a0, done.accepts.instance, done.accepts.initial)
  listed_read f done = done

  -- before a file is read, each earlier one was accepted
  read_before : (f g : File) → is_up_to g f ≡ false → ReadBefore held names g → IsReadAt held names f
  read_before file.Model file.Closed later read = read
  read_before file.Model file.Initial later read = (read.1.model, read.1.read)
  read_before file.Closed file.Initial later read = read
  read_before file.Model file.Changed later read = (read.2.model, read.2.read)
  read_before file.Closed file.Changed later read = (read.0, read.2)
  read_before file.Initial file.Changed later read = read
  read_before f file.Edits later read =
      listed_read f (record { tables = read.0; a0 = read.1; a = read.2; accepts = read.3 })
  read_before f file.Report later read =
      listed_read f (record { tables = read.0; a0 = read.1; a = read.1; accepts = read.2.accepts })
  read_before f g later read = cc

  refused_before : (g : File) → IsRefusedAt held names g → ReadBefore held names g
  refused_before file.Model refused = tt
  refused_before file.Closed refused = (refused.1.model, refused.1.read)
  refused_before file.Initial refused = (refused.1.tables, refused.1.instance)
  refused_before file.Changed refused =
      (refused.1.tables, refused.1.a0, refused.1.instance, refused.1.earlier refl)
  refused_before g refused = absurd refused

  -- ---- over known files that are accepted, a refusal is one of the job's own, or of memory

  refused_named : (f : File) → IsRefusedAt held names f → IsNamed names f
  refused_named file.Model refused = tt
  refused_named file.Closed refused = rw refused.1.named refl
  refused_named file.Initial refused = refused.1.named
  refused_named file.Changed refused = refused.1.named
  refused_named f refused = absurd refused

  went_role : (which : Role) (went : Went held names) → IsNamed names (file_of which) →
      Feasible went.listed.tables went.listed.a0 (of_role which went.listed.a0 went.listed.a)
  went_role role.Initial went named = went.initial named
  went_role role.Changed went named = went.changed named

  module _ (before now : Faults) where
    pub known_less : (f last : File) → is_up_to f last ≡ true →
        KnownTo held names before now last → KnownTo held names before now f
    known_less f last up known g below = known g (up_to_more g f last below up)

    pub known_model : (last : File) → KnownTo held names before now last → IsSome (held names.model)
    unfolding name_of
    known_model last known = (known file.Model (model_first last) tt).0

    pub told_closed : (last : File) → is_up_to file.Closed last ≡ true →
        KnownTo held names before now last → Told held names.closed
    unfolding name_of
    told_closed last up known = told_of held names.closed _ (known file.Closed up)

    pub told_role : (which : Role) (last : File) →
        is_up_to (file_of which) last ≡ true → KnownTo held names before now last → Told held (list_in names which)
    unfolding name_of
    told_role role.Initial last up known = told_of held names.initial _ (known file.Initial up)
    told_role role.Changed last up known = told_of held names.changed _ (known file.Changed up)

    -- a known file is not refused and accepted at once
    never_both : (f : File) → KnownTo held names before now f → IsRefusedAt held names f → IsReadAt held names f → ⊥
    never_both file.Model known refused read =
        no_model held names.model (known_model file.Model known) refused.0 refused.1 read.0 read.1
    never_both file.Closed known refused read =
        no_closed held names.model names.closed (known_model file.Closed known)
        (told_closed file.Closed refl known) refused.0 refused.1 read.0 read.1
    never_both file.Initial known refused read =
        no_role held names role.Initial (known_model file.Initial known)
        (told_closed file.Initial refl known)
        (told_role role.Initial file.Initial refl known) refused.0 refused.1 read.0 read.1 read.2
        read.3
    never_both file.Changed known refused read =
        no_role held names role.Changed (known_model file.Changed known)
        (told_closed file.Changed refl known)
        (told_role role.Changed file.Changed refl known) refused.0 refused.1 read.tables read.a
        read.accepts.instance read.accepts.changed
    never_both f known refused read = absurd refused

    -- if two files are refused, the later one is not known, or it is the same
    one_status : (last g : File) → KnownTo held names before now last →
        IsRefusedAt held names last → IsRefusedAt held names g → bad_status g ≡ bad_status last
    one_status last g known refused other = ⊎_elim
        (λ up. ⊎_elim
        (λ down. same_status g last up down)
        (λ earlier.
        absurd (never_both g (known_less g last up known) other
        (read_before g last earlier (refused_before last refused))))
        (cases_Bool _))
        (λ later.
        absurd (never_both last known refused
        (read_before last g later (refused_before g other))))
        (cases_Bool _)

    not_refused : (last f : File) → KnownTo held names before now last → ((f : File) → IsNamed names f →
        ReadBefore held names f → is_up_to f last ≡ true) → Listed held names → IsRefusedAt held names f → ⊥
    not_refused last f known up done refused =
        let below = up f (refused_named f refused) (refused_before f refused) in
        never_both f (known_less f last below known) refused
        (listed_read f done)

    module _ (own : Refusal → Type 0) where
      cause_of : (refusal : Refusal) →
          Reason held names before now own refusal → CauseOf held names before now own (status_of refusal)
      unfolding status_of
      cause_of (Read f) reason = (f, reason)
      cause_of (Model fault) reason = (fault, reason)
      cause_of (Closed fault) reason = (fault, reason)
      cause_of (Assign which fault) reason = (which, fault, reason)
      cause_of Write reason = reason
      cause_of refusal reason = tt

      module _ (listed : (r : Refusal) → own r → Listed held names) (last : File)
          (known : KnownTo held names before now last) (refused : IsRefusedAt held names last) where
        -- a job whose files are known up to a refused one refuses that, or memory was refused; `listed` says of its own refusals
        -- that they come after all lists
        refuses_it : (refusal : Refusal) → Reason held names before now own refusal →
            (status_of refusal ≡ bad_status last) ⊎ (status_of refusal ≡ NoMemory)
        unfolding status_of
        refuses_it (Read g) reason = absurd (⊎_elim
            (λ up. (known g up reason.named).1 reason.rose)
            (λ later.
            never_both last known refused (read_before last g later reason.earlier))
            (cases_Bool _))
        refuses_it (Model fault) reason =
            inl (one_status last file.Model known refused (fault, reason))
        refuses_it (Closed fault) reason =
            inl (one_status last file.Closed known refused (fault, reason))
        refuses_it (Assign role.Initial fault) reason =
            inl (one_status last file.Initial known refused (fault, reason))
        refuses_it (Assign role.Changed fault) reason =
            inl (one_status last file.Changed known refused (fault, reason))
        refuses_it Memory reason = inr refl
        refuses_it refusal reason =
            absurd (never_both last known refused (listed_read last (listed refusal reason)))

      module _ (last : File) (known : KnownTo held names before now last) (up : (f : File) → IsNamed names f →
          ReadBefore held names f → is_up_to f last ≡ true) (done : Listed held names) where
        -- `up` says that the job reads no file after the last one that is known
        pub own_known : (refusal : Refusal) → Reason held names before now own refusal →
            own refusal ⊎ (status_of refusal ≡ NoMemory)
        unfolding status_of
        own_known (Read f) reason =
            absurd ((known f (up f reason.named reason.earlier) reason.named).1 reason.rose)
        own_known (Model fault) reason =
            absurd (not_refused last file.Model known up done (fault, reason))
        own_known (Closed fault) reason =
            absurd (not_refused last file.Closed known up done (fault, reason))
        own_known (Assign role.Initial fault) reason =
            absurd (not_refused last file.Initial known up done (fault, reason))
        own_known (Assign role.Changed fault) reason =
            absurd (not_refused last file.Changed known up done (fault, reason))
        own_known Memory reason = inr refl
        own_known refusal reason = inl reason

    -- if a list breaks a constraint, no job went so far that its lists were feasible
    pub breaks_never : KnownTo held names before now file.Edits →
        (which : Role) (cause : Cause) → RoleBreaks held names which cause → Went held names → ⊥
    breaks_never known which cause breaks went =
        no_break held names which (known_model file.Edits known)
        (told_closed file.Edits refl known)
        (told_role role.Initial file.Edits refl known)
        (told_role which file.Edits (role_first which) known) cause breaks went.listed.tables
        went.listed.a0 went.listed.a went.listed.accepts (went_role which went breaks.named)

    writes_feasible : (written : Type 0) (refusal : Refusal) →
        Reason held names before now (OnlyWrites written) refusal → status_of refusal ≢ Infeasible
    unfolding status_of
    writes_feasible written (Broken which cause) reason e = reason
    writes_feasible written refusal reason e = cc

  -- ---- lists that break a constraint

  -- only a job whose lists were feasible reads a file after the edits
  none_after : (Went held names → ⊥) → (f : File) → IsNamed names f →
      ReadBefore held names f → is_up_to f file.Edits ≡ true
  none_after never file.Report named read =
      absurd (never (passed_went read.0 read.1 read.1 read.2))
  none_after never f named read = refl

  pub breaks_listed : (which : Role) (cause : Cause) → RoleBreaks held names which cause → Listed held names
  breaks_listed which cause breaks = record {
    tables = breaks.tables;
    a0 = breaks.a0;
    a = breaks.a;
    accepts = breaks.accepts;
  }

  module _ (written : Type 0) where
    -- the refusals of a job whose lists have to be feasible: the causes of one status
    broke_of : (before now : Faults) (refusal : Refusal) →
        Reason held names before now (Judges held names written) refusal → status_of refusal ≡ Infeasible →
        (which : Role) × (cause : Cause) × RoleBreaks held names which cause
    unfolding status_of
    broke_of before now (Broken which cause) reason e = (which, cause, reason)
    broke_of before now refusal reason e = cc

    module _ (went : written → Went held names) where
      judges_stop : (Went held names → ⊥) → (r : Refusal) → Judges held names written r → status_of r ≡ Infeasible
      unfolding status_of
      judges_stop never (Broken which cause) reason = refl
      judges_stop never Write reason = absurd (never (went reason))
      judges_stop never refusal reason = absurd reason

      pub judges_listed : (r : Refusal) → Judges held names written r → Listed held names
      judges_listed (Broken which cause) reason = breaks_listed which cause reason
      judges_listed Write reason = (went reason).listed
      judges_listed refusal reason = absurd reason

    -- of a job that asks no list to be feasible
    pub writes_listed : (written → Listed held names) → (r : Refusal) → OnlyWrites written r → Listed held names
    writes_listed went Write reason = went reason
    writes_listed went refusal reason = absurd reason

  -- what was printed, whole or in part, is of files that were accepted, and of lists that are feasible

  pub printed_went : (sent : List ℕ → Type 0) → CheckPrinted held names sent → Went held names
  printed_went sent p = passed_went p.tables p.a0 p.a p.passes

  pub bound_listed : EndsAt names file.Initial → (sent : List ℕ → Type 0) →
      BoundPrinted held names sent → Listed held names
  bound_listed ends sent p =
      let start = bound_start held names.initial p.read.tables p.bound p.read.is in
      record {
        tables = p.read.tables;
        a0 = start.0;
        a = [];
        accepts = record {
          instance = p.read.instance;
          initial = start.1;
          changed = list_none held names.changed p.read.tables [] (alone_at names ends);
        };
      }

-- a refusal that comes before the output leaves that as it was
puts_nothing : (refusal : Refusal) → status_of refusal ≢ WriteFault → status_of refusal ≢ Unrepaired →
    puts_first refusal ≡ false
unfolding status_of
puts_nothing Write read done = absurd (read refl)
puts_nothing (Repaired cause) read done = absurd (done refl)
puts_nothing refusal read done = refl

module _ {held : Held} {names : Names} {before now : Faults} {output : Type 0} {own : Refusal →
    Type 0} {tells : List ℕ → Type 0} {out_same err_same : Type 0} {status : Status}
    (ends : Ends held names before now output own tells out_same err_same status) where
  -- ---- from how a job ends

  always : (this : Status) → (output → ⊥) → ((refusal : Refusal) → Reason held names before now own refusal →
      (status_of refusal ≡ this) ⊎ (status_of refusal ≡ NoMemory)) → (status ≡ this) ⊎ (status ≡ NoMemory)
  always this undone stops =
      ⊎_elim
      (λ done. absurd (undone (ends.printed done)))
      (λ other.
      let refused = ends.refused other in
      rw refused.is (stops refused.refusal refused.reason))
      (is_done status)

  only : (this : Status) → this ≢ Done → status ≡ this → CauseOf held names before now own this
  only this other is =
      let refused = ends.refused (λ done. other (sym is ∙ done)) in
      subst (CauseOf held names before now own) (sym refused.is ∙ is)
      (cause_of held names before now own refused.refusal refused.reason)

  not_written : status ≢ Done → status ≢ WriteFault → status ≢ Unrepaired → out_same
  not_written other read repaired =
      let refused = ends.refused other in
      refused.no_output (puts_nothing refused.refusal (λ e. read (refused.is ∙ e)) (λ e. repaired (refused.is ∙ e)))

  module _ (printed : output → Listed held names) (listed : (r : Refusal) → own r → Listed held names) where
    -- if a file is refused, and it is known up to that
    refused_stops : (last : File) → KnownTo held names before now last →
        IsRefusedAt held names last → (status ≡ bad_status last) ⊎ (status ≡ NoMemory)
    refused_stops last known refused =
        always _
        (λ o. never_both held names before now last known refused (listed_read held names last (printed o)))
        (refuses_it held names before now own listed last known refused)

    role_stops : (which : Role) → KnownTo held names before now (file_of which) →
        (fault : AssignFault) → RoleRefused held names which fault → (status ≡ BadAssignment) ⊎ (status ≡ NoMemory)
    role_stops role.Initial known fault refused =
        refused_stops file.Initial known (fault, refused)
    role_stops role.Changed known fault refused =
        refused_stops file.Changed known (fault, refused)

    -- `listed` says of the output and of the job's own refusals that they come after all lists
    pub comes : Comes held names before now own out_same status
    comes = record {
      read_fault = only ReadFault (λ e. cc);
      bad_model = record {
        only = only BadModel (λ e. cc);
        always = λ known cause. refused_stops file.Model known cause;
      };
      bad_closed = record {
        only = only BadClosed (λ e. cc);
        always = λ known cause. refused_stops file.Closed known cause;
      };
      bad_assignment = record {
        only = only BadAssignment (λ e. cc);
        always = λ which known cause. role_stops which known cause.0 cause.1;
      };
      write_fault = only WriteFault (λ e. cc);
      no_output = not_written;
    }

  -- if a list is not feasible, by the reasons of the job's own refusals
  pub infeasible_of : (output → Went held names) → ((refusal : Refusal) → Reason held names before now own refusal →
      status_of refusal ≡ Infeasible → (which : Role) × (cause : Cause) × RoleBreaks held names which cause) →
      ((Went held names → ⊥) → (r : Refusal) → own r → status_of r ≡ Infeasible) →
      InfeasibleComes held names before now status
  infeasible_of printed broke
      stops = record {
        only = λ is.
            let refused = ends.refused (λ done. cc) in
            broke refused.refusal refused.reason (sym refused.is ∙ is);
        always = λ known cause.
            let never = breaks_never held names before now known cause.0 cause.1 cause.2 in
            always Infeasible (λ o. never (printed o))
            (λ r reason. ⊎_elim
            (λ mine. inl (stops never r mine))
            (λ memory. inr memory)
            (own_known held names before now own file.Edits known (none_after held names never)
            (breaks_listed held names cause.0 cause.1 cause.2) r reason));
      }

module _ {held : Held} {names : Names} {before now : Faults} {output written : Type 0} {tells : List ℕ →
    Type 0} {out_same err_same : Type 0} {status : Status} where
  pub infeasible_comes : Ends held names before now output (Judges held names written) tells out_same err_same status →
      (output → Went held names) → (written → Went held names) → InfeasibleComes held names before now status
  infeasible_comes ends printed went =
      infeasible_of ends printed (broke_of held names written before now) (judges_stop held names written went)

  pub never_infeasible : Ends held names before now output (OnlyWrites written) tells out_same err_same status →
      status ≢ Infeasible
  never_infeasible ends is =
      let refused = ends.refused (λ done. cc) in
      writes_feasible held names before now written refused.refusal refused.reason (sym refused.is ∙ is)
