-- Over told bytes the files of a job mean one instance, but for the room of its lists, and one assignment each: so no
-- file is accepted and refused at once.
use Rattle.std.proofs.Common.{◌≡◌, ℕ, ◌<◌, Bool, false, List, Option, Some, None, Result, Ok, IfSome, IsSome, refl, sym, ◌∙◌, ap, subst, []}
use Rattle.std.specs.Prelude.{unwrap_or}
use Rattle.std.proofs.lemmas.List.{ext_get_or}
use Rattle.ra_base.specs.declared.causes.Cause.{Cause}
use Rattle.ra_base.specs.declared.ids.Machine.{Machine}
use Rattle.ra_model.specs.declared.raw.Tables.{Tables}
use Rattle.ra_model.specs.Numbers.{machine_count, with_closed}
use Rattle.ra_model.specs.Broken.{first_broken}
use Rattle.ra_model.specs.Feasible.{Feasible}
use Rattle.ra_model.proofs.BrokenLemmas.{unbroken_from_feasible}
use Rattle.ra_model_read.specs.declared.faults.ModelFault.{ModelFault}
use Rattle.ra_model_read.specs.ModelText.{IsModel, model_refusal}
use Rattle.ra_assign.specs.declared.faults.AssignFault.{AssignFault}
use Rattle.ra_assign.specs.declared.faults.ClosedFault.{ClosedFault}
use Rattle.ra_assign.specs.Lists.{assign_refusal, IsAssignmentOf}
use Rattle.ra_assign.specs.ClosedLists.{closed_refusal, IsClosedOf}
use Rattle.ra_assign.proofs.AssignLemmas.{assign_accepts}
use Rattle.ra_assign.proofs.ClosedLemmas.{closed_accepts}
use Rattle.ra_jobs.specs.Files.{Held, Names, name_of, file_of, IsNamed, ModelIs, CloseIs, InstanceIs, NamedListIs, Accepts}
use Rattle.ra_jobs.specs.declared.refusals.Role.{Role}
use Rattle.ra_jobs.specs.declared.refusals.Role.TheVariants as role
use Rattle.ra_jobs.specs.Refusals.{ModelRefused, ListRefused, ClosedRefused, RoleRefused, Breaks, RoleBreaks}
use Rattle.ra_jobs.proofs.RowLemmas.{bare_raw, raw_same}
use Rattle.ra_jobs.proofs.BareLemmas.{bare, bare_closed, machines_bare, closed_list_bare, assign_bare, broken_bare}

-- a file that a job may not have is told, if it has it
abbrev pub Told : Held → Option (List ℕ) → Type 0
Told held named = (name : List ℕ) → named ≡ Some name → IsSome (held name)

-- two things that are said of told bytes
pub told_gives : (R : Type 0) (P Q : List ℕ → Type 0) (told : Option (List ℕ)) → IsSome told →
    ((bytes : List ℕ) → P bytes → Q bytes → R) → IfSome told P → IfSome told Q → R
told_gives R P Q None some gives p q = absurd (cc)
told_gives R P Q (Some bytes) some gives p q = gives bytes p q

ok_same : {X E : Type 0} (r : Result X E) (x y : X) → r ≡ Ok x → r ≡ Ok y → x ≡ y
ok_same r x y one two = cc

refused_not : {X : Type 0} (o : Option X) (x : X) → o ≡ None → o ≡ Some x → ⊥
refused_not o x none some = cc

-- instances that are the same but for the room of their lists

bare_same : (i j : Tables) → bare_raw i.raw ≡ bare_raw j.raw → bare_closed i.closed ≡ bare_closed j.closed →
    bare i ≡ bare j
bare_same i j raw closed = rw (raw, closed) refl

machines_same : (i j : Tables) → bare i ≡ bare j → machine_count i ≡ machine_count j
machines_same i j same = sym (machines_bare i) ∙ ap machine_count same ∙ machines_bare j

module _ (bytes : List ℕ) (i : Tables) where
  closed_same : (j : Tables) → bare i ≡ bare j → closed_refusal bytes i ≡ closed_refusal bytes j
  closed_same j same = sym (closed_list_bare bytes i) ∙ ap (closed_refusal bytes) same ∙ closed_list_bare bytes j

  assign_same : (j : Tables) → bare i ≡ bare j → assign_refusal bytes i ≡ assign_refusal bytes j
  assign_same j same = sym (assign_bare bytes i) ∙ ap (assign_refusal bytes) same ∙ assign_bare bytes j

pub broken_same : (i j : Tables) (a0 a : List Machine) → bare i ≡ bare j → first_broken i a0 a ≡ first_broken j a0 a
broken_same i j a0 a same =
    sym (broken_bare i a0 a) ∙ ap (λ t. first_broken t a0 a) same ∙ broken_bare j a0 a

module _ (bytes : List ℕ) (i : Tables) where
  -- the model

  model_one : (j : Tables) → IsModel bytes i → IsModel bytes j → bare i ≡ bare j
  model_one j one two =
      bare_same i j (raw_same i.raw j.raw (ok_same _ _ _ one.lists two.lists))
      (rw (one.open_to_all, two.open_to_all) refl)

  model_accepted : IsModel bytes i → model_refusal bytes ≡ None
  unfolding model_refusal
  model_accepted read = rw read.lists refl

  -- the closed list

  flags_one : (j : Tables) (f g : List Bool) → bare i ≡ bare j → IsClosedOf bytes i f → IsClosedOf bytes j g → f ≡ g
  flags_one j f g same one two =
      let machines = machines_same i j same in
      ext_get_or false f g (one.one_each ∙ machines ∙ sym two.one_each)
      (λ k within. let one_in : k < machine_count i = rw (← one.one_each) within in one.named k one_in
      ∙ sym (two.named k (rw (← machines) one_in)))

-- the lists

-- the list of a job in each role, and that of two assignments
abbrev pub list_in : Names → Role → Option (List ℕ)
list_in names role.Initial = names.initial
list_in names role.Changed = names.changed

abbrev pub of_role : Role → List Machine → List Machine → List Machine
of_role role.Initial a0 a = a0
of_role role.Changed a0 a = a

-- the constraints

not_broken : (i j : Tables) (a0 b0 a b : List Machine) (cause : Cause) → bare i ≡ bare j → a0 ≡ b0 → a ≡ b →
    first_broken i a0 a ≡ Some cause → Feasible j b0 b → ⊥
not_broken i j a0 b0 a b cause same first second broken feasible =
    let moved : first_broken i a0 a ≡ first_broken j b0 b = rw (first, second) (broken_same i j b0 b same) in
    refused_not _ cause (moved ∙ unbroken_from_feasible j b0 b feasible) broken

first_breaks : (i : Tables) (a0 a : List Machine) (which : Role) (cause : Cause) → Breaks i a0 a which cause →
    first_broken i a0 (of_role which a0 a) ≡ Some cause
first_breaks i a0 a role.Initial cause breaks = breaks
first_breaks i a0 a role.Changed cause breaks = breaks.1

module _ (held : Held) where
  closing_same : (named : Option (List ℕ)) → Told held named → (m n i j : Tables) → bare m ≡ bare n →
      CloseIs held named m i → CloseIs held named n j → bare i ≡ bare j
  unfolding bare_closed
  closing_same None told m n i j same one two = rw (one, two) same
  closing_same (Some name) told m n i j same one two =
      let flags = told_gives (one.0.items ≡ two.0.items) (λ bytes. IsClosedOf bytes m one.0.items)
      (λ bytes. IsClosedOf bytes n two.0.items) (held name) (told name refl)
      (λ bytes p q. flags_one bytes m n _ _ same p q) one.2 two.2 in
      rw (one.1, two.1) (bare_same (with_closed m one.0) (with_closed n two.0) (ap (λ (t : Tables). t.raw) same)
      (rw flags refl))

  module _ (name : List ℕ) where
    pub no_model : IsSome (held name) → (fault : ModelFault) →
        ModelRefused held name fault → (i : Tables) → ModelIs held name i → ⊥
    no_model told fault refused i read =
        told_gives ⊥ (λ bytes. model_refusal bytes ≡ Some fault) (λ bytes. IsModel bytes i) _ told
        (λ bytes some is. refused_not _ fault (model_accepted bytes i is) some) refused.refused read

    models_same : IsSome (held name) → (i j : Tables) → ModelIs held name i → ModelIs held name j → bare i ≡ bare j
    models_same told i j one two = told_gives _ (λ bytes. IsModel bytes i)
        (λ bytes. IsModel bytes j) _ told (λ bytes p q. model_one bytes i j p q) one two

    module _ (named : Option (List ℕ)) (model : IsSome (held name)) (told : Told held named) where
      pub instances_same : (i j : Tables) → InstanceIs held name named i → InstanceIs held name named j →
          bare i ≡ bare j
      instances_same i j one two =
          closing_same named told one.model two.model i j
          (models_same model one.model two.model one.read two.read) one.closed two.closed

      pub no_closed : (fault : ClosedFault) → ClosedRefused held name named fault → (i : Tables) →
          InstanceIs held name named i → ⊥
      no_closed fault refused i instance =
          let same = models_same model refused.model instance.model refused.read instance.read in
          let closing = subst (λ (o : Option (List ℕ)). CloseIs held o instance.model i) refused.named instance.closed in
          told_gives ⊥ (λ bytes. closed_refusal bytes refused.model ≡ Some fault)
          (λ bytes. IsClosedOf bytes instance.model closing.0.items) _ (told refused.name refused.named)
          (λ bytes some is. refused_not _ fault (closed_same bytes refused.model instance.model same
          ∙ (closed_accepts bytes instance.model).1 is.file) some) refused.refused closing.2

  no_list : (named : Option (List ℕ)) → Told held named → IsSome named → (i j : Tables) → bare i ≡ bare j →
      (fault : AssignFault) → ListRefused held (unwrap_or named []) i fault → (a : List Machine) →
      NamedListIs held named j a → ⊥
  no_list None told some i j same fault refused a list = absurd (cc)
  no_list (Some name) told some i j same fault refused a list =
      told_gives ⊥ (λ bytes. assign_refusal bytes i ≡ Some fault) (λ bytes. IsAssignmentOf bytes j a) _
      (told name refl)
      (λ bytes some assigned. refused_not _ fault (assign_same bytes i j same ∙
      (assign_accepts bytes j).1 assigned.file)
      some) refused.refused list

  pub lists_same : (named : Option (List ℕ)) → Told held named → IsSome named →
      (i j : Tables) (a b : List Machine) → NamedListIs held named i a → NamedListIs held named j b → a ≡ b
  lists_same None told some i j a b one two = absurd (cc)
  lists_same (Some name) told some i j a b one two = told_gives (a ≡ b) (λ bytes. IsAssignmentOf bytes i a)
      (λ bytes. IsAssignmentOf bytes j b) _ (told name refl) (λ bytes p q. p.machines ∙ sym q.machines) one two

  module _ (names : Names) where
    pub accepted_list : (which : Role) (i : Tables) (a0 a : List Machine) →
        Accepts held names i a0 a → NamedListIs held (list_in names which) i (of_role which a0 a)
    accepted_list role.Initial i a0 a accepts = accepts.initial
    accepted_list role.Changed i a0 a accepts = accepts.changed

    pub no_role : (which : Role) → IsSome (held names.model) → Told held names.closed →
        Told held (list_in names which) → (fault : AssignFault) → RoleRefused held names which fault →
        (i : Tables) (a : List Machine) → InstanceIs held names.model names.closed i →
        NamedListIs held (list_in names which) i a → ⊥
    unfolding name_of
    no_role role.Initial model closed told fault refused i a instance list =
        no_list names.initial told refused.named refused.tables i
        (instances_same names.model names.closed model closed refused.tables i refused.instance instance) fault
        refused.refused a list
    no_role role.Changed model closed told fault refused i a instance list =
        no_list names.changed told refused.named refused.tables i
        (instances_same names.model names.closed model closed refused.tables i refused.instance instance) fault
        refused.refused a list

    role_same : (which : Role) → Told held (list_in names which) → IsNamed names (file_of which) →
        (i j : Tables) (a b : List Machine) → NamedListIs held (list_in names which) i a →
        NamedListIs held (list_in names which) j b → a ≡ b
    role_same role.Initial = lists_same names.initial
    role_same role.Changed = lists_same names.changed

    pub no_break : (which : Role) → IsSome (held names.model) → Told held names.closed → Told held names.initial →
        Told held (list_in names which) → (cause : Cause) → RoleBreaks held names which cause →
        (i : Tables) (a0 a : List Machine) → Accepts held names i a0 a → Feasible i a0 (of_role which a0 a) → ⊥
    no_break which model closed initial told cause is i a0 a accepts feasible =
        let same = instances_same names.model names.closed model closed is.tables i is.accepts.instance
        accepts.instance in
        let first = lists_same names.initial initial is.start_named is.tables i is.a0 a0 is.accepts.initial
        accepts.initial in
        let second = role_same which told is.named is.tables i _ _
        (accepted_list which is.tables is.a0 is.a is.accepts) (accepted_list which i a0 a accepts) in
        not_broken is.tables i is.a0 a0 _ _ cause same first second
        (first_breaks is.tables is.a0 is.a which cause is.breaks) feasible
