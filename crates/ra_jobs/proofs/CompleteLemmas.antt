-- A job over valid files without a fault is done, or memory was refused.
use Rattle.std.proofs.Common.{◌≡◌, ◌≢◌, ◌⊎◌, ℕ, List, [], Option, Some, None, IfSome, IsSome, inl, inr, ⊎_elim, refl, sym, ◌∙◌}
use Rattle.std.proofs.Math.Nat.{lt_irrefl}
use Rattle.std.specs.Prelude.{unwrap_or}
use Rattle.ra_model.specs.declared.raw.Tables.{Tables}
use Rattle.ra_io.specs.Faults.{Rose}
use Rattle.ra_model.proofs.BrokenLemmas.{unbroken_from_feasible}
use Rattle.ra_model_read.specs.ModelText.{model_refusal}
use Rattle.ra_assign.specs.Lists.{assign_refusal}
use Rattle.ra_assign.specs.ClosedLists.{closed_refusal}
use Rattle.ra_jobs.specs.declared.refusals.Refusal.{Refusal}
use Rattle.ra_jobs.specs.declared.refusals.Refusal.TheVariants.{Read, Model, Closed, Assign, Broken, Write, Memory}
use Rattle.ra_jobs.specs.declared.refusals.Role.{Role}
use Rattle.ra_jobs.specs.declared.refusals.Role.TheVariants as role
use Rattle.ra_jobs.specs.declared.status.Status.{Status}
use Rattle.ra_jobs.specs.declared.status.Status.TheVariants.{Done, ReadFault, WriteFault, NoMemory}
use Rattle.ra_jobs.specs.Files.{Held, Faults, Names, name_of, file_of, IsNamed, InstanceIs}
use Rattle.ra_jobs.specs.Refusals.{Reason, Judges, OnlyWrites}
use Rattle.ra_jobs.specs.Complete.{ListAccepted, AreAccepted, AreValid, NoFault}
use Rattle.ra_jobs.specs.Statuses.{status_of}
use Rattle.ra_jobs.proofs.EndLemmas.{Ends}

-- what is told is refused and accepted at once
pub contradiction : {X : Type 0} (told : Option (List ℕ)) (bytes : List ℕ) (refusal : List ℕ → Option X) (fault : X) →
    told ≡ Some bytes → refusal bytes ≡ None → IfSome told (λ b. refusal b ≡ Some fault) → ⊥
contradiction None bytes refusal fault is accepted refused = cc
contradiction (Some other) bytes refusal fault is accepted refused = let same : other ≡ bytes = cc in
    let none : refusal other ≡ None = rw same accepted in cc

-- a name that a job has
pub some_name : (named : Option (List ℕ)) → IsSome named → named ≡ Some (unwrap_or named [])
some_name None some = absurd (cc)
some_name (Some name) some = refl

-- a job over accepted files is done, or memory was refused, or its refusal is one of its own
pub record OwnRefused (own : Refusal → Type 0) (status : Status) : Type 0 where
  pub refusal : Refusal
  pub reason : own refusal
  pub is : status ≡ status_of refusal

module _ (held : Held) (names : Names) where
  -- the list of each role is accepted
  role_accepted : (which : Role) → AreAccepted held names → IsNamed names (file_of which) →
      (i : Tables) → InstanceIs held names.model names.closed i → ListAccepted held (name_of names (file_of which)) i
  unfolding name_of
  role_accepted role.Initial valid named i instance =
      valid.initial _ (some_name names.initial named) i instance
  role_accepted role.Changed valid named i instance =
      valid.changed _ (some_name names.changed named) i instance

  module _ (before now : Faults) (own : Refusal → Type 0) where
    -- a refusal over accepted files is one of the job's own, or of memory
    pub own_left : AreAccepted held names → NoFault names before now → (refusal : Refusal) →
        Reason held names before now own refusal → own refusal ⊎ (status_of refusal ≡ NoMemory)
    unfolding status_of
    own_left valid sound (Read f) reason = absurd (sound f reason.named reason.rose)
    own_left valid sound (Model fault) reason =
        absurd (contradiction _ valid.model.0 model_refusal fault valid.model.1 valid.model.2
        reason.refused)
    own_left valid sound (Closed fault) reason =
        let accepted = valid.closed reason.name reason.named reason.model reason.read in
        absurd (contradiction _ accepted.0 (λ bytes. closed_refusal bytes reason.model) fault accepted.1
        accepted.2 reason.refused)
    own_left valid sound (Assign which fault) reason =
        let accepted = role_accepted which valid reason.named reason.tables reason.instance in
        absurd (contradiction _ accepted.0 (λ bytes. assign_refusal bytes reason.tables)
        fault accepted.1 accepted.2 reason.refused.refused)
    own_left valid sound Memory reason = inr refl
    own_left valid sound refusal reason = inl reason

    -- a fault of a file is told only if its count rose
    read_rose : (refusal : Refusal) → Reason held names before now own refusal → ((name : List ℕ) →
        Rose (before name) (now name) → ⊥) → status_of refusal ≢ ReadFault
    unfolding status_of
    read_rose (Read f) reason sound e = sound _ reason.rose
    read_rose refusal reason sound e = cc

    -- a fault of the output is told only if writing failed
    write_rose : (refusal : Refusal) →
        Reason held names before now own refusal → (own Write → ⊥) → status_of refusal ≢ WriteFault
    unfolding status_of
    write_rose Write reason wrote e = wrote reason
    write_rose refusal reason wrote e = cc

pub is_done : (status : Status) → (status ≡ Done) ⊎ (status ≢ Done)
is_done Done = inl refl
is_done status = inr (λ e. cc)

module _ {held : Held} {names : Names} {before now : Faults} {printed : Type 0} {own : Refusal →
    Type 0} {tells : List ℕ → Type 0} {out_same err_same : Type 0} {status : Status}
    (ends : Ends held names before now printed own tells out_same err_same status) where
  module _ (valid : AreAccepted held names) (sound : NoFault names before now) where
    pub complete_own : (status ≡ Done) ⊎ ((status ≡ NoMemory) ⊎ OwnRefused own status)
    complete_own =
        ⊎_elim
        (λ done. inl done)
        (λ other.
        let refused = ends.refused other in
        inr (⊎_elim
        (λ reason. inr (record { refusal = refused.refusal; reason = reason; is = refused.is }))
        (λ memory. inl (refused.is ∙ memory))
        (own_left held names before now own valid sound refused.refusal refused.reason)))
        (is_done status)

    -- if none of its own can come
    pub complete : ((refusal : Refusal) → own refusal → ⊥) → (status ≡ Done) ⊎ (status ≡ NoMemory)
    complete none =
        ⊎_elim
        (λ done. inl done)
        (λ other. ⊎_elim
        (λ memory. inr memory)
        (λ refused. absurd (none refused.refusal refused.reason))
        other)
        complete_own

  pub no_read_fault : ((name : List ℕ) → Rose (before name) (now name) → ⊥) → status ≢ ReadFault
  no_read_fault sound fault =
      let refused = ends.refused (λ done. cc) in
      read_rose held names before now own refused.refusal refused.reason sound (sym refused.is ∙ fault)

  pub no_write_fault : (own Write → ⊥) → status ≢ WriteFault
  no_write_fault wrote fault =
      let refused = ends.refused (λ done. cc) in
      write_rose held names before now own refused.refusal refused.reason wrote (sym refused.is ∙ fault)

module _ (held : Held) (names : Names) (written : Type 0) (valid : AreValid held names) (wrote : written → ⊥) where
  -- over feasible lists no list breaks a constraint
  pub judges_none : (refusal : Refusal) → Judges held names written refusal → ⊥
  judges_none (Broken role.Initial cause) reason =
      let none = unbroken_from_feasible reason.tables reason.a0 reason.a0
      (valid.initial reason.named reason.tables reason.a0 reason.a reason.accepts) in
      cc (sym none ∙ reason.breaks)
  judges_none (Broken role.Changed cause) reason =
      let none = unbroken_from_feasible reason.tables reason.a0 reason.a
      (valid.changed reason.named reason.tables reason.a0 reason.a reason.accepts) in
      cc (sym none ∙ reason.breaks.1)
  judges_none Write reason = wrote reason
  judges_none refusal reason = reason

pub writes_none : (written : Type 0) → (written → ⊥) → (refusal : Refusal) → OnlyWrites written refusal → ⊥
writes_none written wrote Write reason = wrote reason
writes_none written wrote refusal reason = reason

-- a count that is always 0 never rose
pub never_rose : Rose 0 0 → ⊥
never_rose = ⊎_elim (λ less. lt_irrefl 0 less) (λ e. cc)
