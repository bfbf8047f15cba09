-- What is printed of the tries of a repair, and when its statuses come.
use Rattle.std.proofs.Common.{◌≡◌, ◌≢◌, ◌⊎◌, ℕ, List, [], ◌∷◌, length, Option, Some, None, IsSome, Result, inl, inr, ⊎_elim, refl, sym, ap, ◌∙◌, subst, arith}
use Rattle.ra_base.specs.declared.causes.Cause.{Cause}
use Rattle.ra_base.specs.Listed.{Listed}
use Rattle.ra_base.specs.declared.ids.Machine.{Machine}
use Rattle.ra_draws.specs.declared.budgets.Lots.{Lots}
use Rattle.ra_draws.specs.declared.sources.Lot.{Lot}
use Rattle.ra_draws.specs.Lots.{lot_at, IsLots}
use Rattle.ra_model.specs.declared.numbers.Instance.{Instance}
use Rattle.ra_model.specs.declared.raw.Tables.{Tables}
use Rattle.ra_model.specs.Limits.{WellFormed}
use Rattle.ra_model.specs.Assignments.{IsAssignment}
use Rattle.ra_model.specs.Broken.{first_broken}
use Rattle.ra_model.specs.Feasible.{Feasible}
use Rattle.ra_model.proofs.BrokenLemmas.{unbroken_from_feasible}
use Rattle.ra_repair.specs.declared.repair.Repair.{Repair}
use Rattle.ra_repair.specs.declared.tries.Try.{Try}
use Rattle.ra_repair.specs.Penalty.{penalty}
use Rattle.ra_repair.specs.Repairs.{IsRepaired}
use Rattle.ra_repair.specs.Runs.{Repaired, repair_run}
use Rattle.ra_repair.proofs.ZeroLemmas as zero
use Rattle.ra_repair.proofs.RunLemmas as run
use Rattle.ra_report.specs.RepairTexts.{text_of_repair, repair_lines}
use Rattle.ra_io.specs.Outside.{Reading, Took}
use Rattle.ra_jobs.specs.declared.refusals.File.TheVariants as file
use Rattle.ra_jobs.specs.declared.refusals.Refusal.{Refusal}
use Rattle.ra_jobs.specs.declared.refusals.Refusal.TheVariants.{Broken, Unrepaired as Left, Write, Memory}
use Rattle.ra_jobs.specs.declared.refusals.Role.TheVariants as role
use Rattle.ra_jobs.specs.declared.status.Status.{Status}
use Rattle.ra_jobs.specs.declared.status.Status.TheVariants.{Done, Infeasible, Unrepaired, WriteFault, NoMemory}
use Rattle.ra_jobs.specs.Comes.{KnownTo}
use Rattle.ra_jobs.specs.Complete.{AreAccepted, NoFault}
use Rattle.ra_jobs.specs.Commands.{These, over}
use Rattle.ra_jobs.specs.Ends.{Does, Tries, Finishes, Leaves}
use Rattle.ra_jobs.specs.Files.{Held, Faults, Names, EndsAt, Accepts}
use Rattle.ra_jobs.specs.Lines.{refusal_line}
use Rattle.ra_jobs.specs.Refusals.{Reason, CanTell}
use Rattle.ra_jobs.specs.Output.{Output, BrokeOff, Put}
use Rattle.ra_jobs.specs.Repairing.{IsTried, RepairPrinted, RepairOwn, LeavesBroken, RepairComes, TryReason, repaired}
use Rattle.ra_jobs.specs.Stages.{IsAcceptedStart}
use Rattle.ra_jobs.specs.Statuses.{status_of}
use Rattle.ra_jobs.proofs.CompleteLemmas.{is_done, complete_own}
use Rattle.ra_jobs.proofs.ComesLemmas.{Listed as AreListed, known_model, own_known, told_closed, told_role}
use Rattle.ra_jobs.proofs.EndLemmas.{Ends, EndsOver, finished, left_so}
use Rattle.ra_jobs.proofs.DoesLemmas.{does_so, does_more, memory_refused}
use Rattle.ra_jobs.proofs.AlikeLemmas.{repaired_same}
use Rattle.ra_jobs.proofs.StageLemmas.{reason_more}
use Rattle.ra_jobs.proofs.MeaningLemmas.{broken_same, instances_same, lists_same}

-- the tries

-- a list that breaks a constraint has a penalty
some_penalty : (i : Tables) (a0 a : List Machine) (broken : Option Cause) → WellFormed i → IsAssignment i a →
    first_broken i a0 a ≡ broken → broken ≢ None → penalty i a0 a ≢ 0
some_penalty i a0 a broken limits fits is other zeros =
    other (sym is ∙ unbroken_from_feasible i a0 a ((zero.zero_is_feasible i a0 a limits fits).0 zeros))

tried : (i : Tables) (a0 : List Machine) (lot : Lot) (r : Repair) (broken : Option Cause) (sent : List ℕ → Type 0) →
    WellFormed i → IsRepaired r → r.inst.now.tables ≡ i → r.start.now.items ≡ a0 → r.lot.now ≡ lot →
    IsAssignment i r.kept.assignment.items → broken ≡ first_broken i a0 r.kept.assignment.items →
    (broken ≡ None → Feasible i a0 r.kept.assignment.items) → sent (text_of_repair r) → IsTried i a0 lot broken sent
unfolding text_of_repair
tried i a0 lot r broken sent limits repaired instance initial of_lot fits is feasible text =
    let run_is : (record {
      assignment = r.kept.assignment.items;
      tries = r.tries.items;
    }) ≡ repair_run i a0 lot = rw (instance, initial, of_lot) at repaired.run in
    let last : r.kept.assignment.items ≡ (repair_run i a0 lot).assignment =
    ap (λ (x : Repaired). x.assignment) run_is in
    let all : r.tries.items ≡ (repair_run i a0 lot).tries = ap (λ (x : Repaired). x.tries) run_is in
    let first : first_broken i a0 (repair_run i a0 lot).assignment ≡ broken = ap (first_broken i a0) (sym last)
    ∙ sym is in
    let now = r.kept.assignment.items in
    let tries = r.tries.items in
    let text_is : text_of_repair r ≡ repair_lines broken (repair_run i a0 lot).assignment (repair_run i a0 lot).tries =
    ap (λ (t : Tables). repair_lines (first_broken t r.start.now.items now) now tries) instance
    ∙ ap (λ (b : List Machine). repair_lines (first_broken i b now) now tries) initial
    ∙ ap (λ (c : Option Cause). repair_lines c now tries) (sym is)
    ∙ ap (λ (b : List Machine). repair_lines broken b tries) last
    ∙ ap (λ (t : List Try). repair_lines broken (repair_run i a0 lot).assignment t) all in
    record {
      is = first;
      feasible = λ none. subst (Feasible i a0) last (feasible none);
      tried = λ some.
          run.uses_its_budget i a0 lot
          (some_penalty i a0 (repair_run i a0 lot).assignment broken limits (subst (IsAssignment i) last fits) first
          some);
      text = subst sent text_is text;
    }

-- what a run of tries gives, and the constraint that was found in its last list
pub run_tried : (inst : Instance) (start a : Listed Machine) (lot : Lot) (r : Repair) (found broken : Option Cause)
    (sent : List ℕ → Type 0) → IsRepaired r → r.inst.now ≡ inst → r.start.now ≡ start → r.lot.now ≡ lot →
    a ≡ r.kept.assignment → found ≡ first_broken inst.tables start.items a.items →
    (found ≡ None → Feasible inst.tables start.items a.items) → found ≡ broken → sent (text_of_repair r) →
    IsTried inst.tables start.items lot broken sent
run_tried inst start a lot r found broken sent repaired instance initial of_lot last first feasible is text =
    let i : r.inst.now.tables ≡ inst.tables = rw instance in
    let items : a.items ≡ r.kept.assignment.items = rw last in
    tried inst.tables start.items lot r broken sent inst.well_formed repaired i
    (rw initial) of_lot
    (rw (← i) r.keeps.stands.fits)
    (sym is ∙ (first ∙ ap (first_broken inst.tables start.items) items))
    (λ none. rw (← items) (feasible (is ∙ none)))
    text

-- one lot of a run

single : (lots : List Lot) (lot : Lot) → length lots ≡ 1 → lot ≡ lot_at lots 0 → lots ≡ lot ∷ []
unfolding lot_at
single (only ∷ []) lot one is = rw is refl
single lots lot one is = absurd (omega arith)

module _ (l : Lots) (lot : Lot) (one : length l.lots.items ≡ 1) (is : lot ≡ lot_at l.lots.items 0) where
  pub one_lot : l.lots.items ≡ lot ∷ []
  one_lot = single l.lots.items lot one is

  pub lot_alone : IsLots (lot ∷ [])
  lot_alone = rw (← one_lot) l.fitting

module _ (held : Held) (names : Names) where
  module _ (l : Lots) where
    module _ (i : Tables) (a0 : List Machine) (lot : Lot) where
      -- what is said of the files

      pub tried_all : (broken : Option Cause) (sent : List ℕ → Type 0) → IsAcceptedStart held names i a0 →
          l.lots.items ≡ lot ∷ [] → IsTried i a0 lot broken sent → RepairPrinted held names l broken sent
      tried_all broken sent start one is = record {
        tables = i;
        a0 = a0;
        accepts = start.accepts;
        lot = lot;
        one = one;
        run = is;
      }

      module _ (before now : Faults) (prints breaks : List ℕ → Type 0) (start : IsAcceptedStart held names i a0)
          (one : l.lots.items ≡ lot ∷ []) where
        pub reason_try : (refusal : Refusal) → TryReason i a0 lot prints breaks refusal →
            Reason held names before now (RepairOwn held names l prints breaks) refusal
        reason_try (Left cause) reason =
            tried_all _ prints start one reason
        reason_try Write reason =
            (reason.0, tried_all reason.0 breaks start one reason.1)
        reason_try Memory reason = tt
        reason_try refusal reason = absurd reason

    pub tried_listed : (broken : Option Cause) (sent : List ℕ → Type 0) →
        RepairPrinted held names l broken sent → AreListed held names
    tried_listed broken sent is = record { tables = is.tables; a0 = is.a0; a = is.a0; accepts = is.accepts }

    module _ (prints breaks : List ℕ → Type 0) where
      pub own_listed : (r : Refusal) → RepairOwn held names l prints breaks r → AreListed held names
      own_listed (Left cause) reason = tried_listed _ prints reason
      own_listed Write reason = tried_listed reason.0 breaks reason.1
      own_listed refusal reason = absurd reason

      pub own_tells : IsSome names.initial → (r : Refusal) → RepairOwn held names l prints breaks r → CanTell names r
      own_tells named (Left cause) reason = named
      own_tells named Write reason = tt
      own_tells named refusal reason = absurd reason

      -- its own refusals, and their statuses
      own_wrote : ((text : List ℕ) → breaks text → ⊥) → (r : Refusal) → RepairOwn held names l prints breaks r →
          status_of r ≡ Unrepaired
      unfolding status_of
      own_wrote wrote (Left cause) reason = refl
      own_wrote wrote Write reason = absurd (wrote _ reason.1.run.text)
      own_wrote wrote refusal reason = absurd reason

      own_case : (status : Status) (refusal : Refusal) → status ≡ status_of refusal →
          RepairOwn held names l prints breaks refusal →
          ((cause : Cause) × RepairPrinted held names l (Some cause) prints × (status ≡ Unrepaired)) ⊎
          ((status ≡ WriteFault) ⊎ (status ≡ NoMemory))
      unfolding status_of
      own_case status (Left cause) is reason = inl (cause, reason, is)
      own_case status Write is reason = inr (inl is)
      own_case status refusal is reason = absurd reason

      -- a refusal of the job's own over known files: the last list broke a constraint, or a put failed
      own_ends : (status : Status) (refusal : Refusal) → status ≡ status_of refusal →
          RepairOwn held names l prints breaks refusal ⊎ (status_of refusal ≡ NoMemory) →
          ((cause : Cause) × RepairPrinted held names l (Some cause) prints × (status ≡ Unrepaired)) ⊎
          ((status ≡ WriteFault) ⊎ (status ≡ NoMemory))
      own_ends status refusal is reason = ⊎_elim
          (λ own. own_case status refusal is own)
          (λ memory. inr (inr (is ∙ memory)))
          reason

    -- with the causes of its own statuses

    said : (broken : Option Cause) (sent : List ℕ → Type 0) →
        RepairPrinted held names l broken sent → RepairPrinted held names l broken (λ text. Unit {0})
    said broken sent is = record {
      tables = is.tables;
      a0 = is.a0;
      accepts = is.accepts;
      lot = is.lot;
      one = is.one;
      run = record { is = is.run.is; feasible = is.run.feasible; tried = is.run.tried; text = tt };
    }

  -- what a run leaves broken is what a run from each instance that the files mean leaves
  broken_left : (before now : Faults) (l : Lots) (left broken : Option Cause) (sent : List ℕ → Type 0) (i : Tables)
      (a0 : List Machine) → IsSome names.initial → Accepts held names i a0 a0 →
      KnownTo held names before now file.Initial → RepairPrinted held names l broken sent → LeavesBroken i a0 l left →
      broken ≡ left
  broken_left before now l left broken sent i a0 initial accepts known is leaves =
      let same = instances_same held names.model names.closed (known_model held names before now file.Initial known)
      (told_closed held names before now file.Initial refl known) is.tables i is.accepts.instance accepts.instance in
      let start = lists_same held names.initial
      (told_role held names before now role.Initial file.Initial refl known) initial is.tables i is.a0 a0
      is.accepts.initial accepts.initial in
      sym is.run.is ∙ broken_same is.tables i is.a0 (repair_run is.tables is.a0 is.lot).assignment same
      ∙ rw (repaired_same is.tables i same is.a0 is.lot, start) (leaves is.lot is.one)

  module _ (before now : Faults) (l : Lots) (prints breaks : List ℕ → Type 0) where
    own_infeasible : (refusal : Refusal) → Reason held names before now (RepairOwn held names l prints breaks) refusal →
        status_of refusal ≢ Infeasible
    unfolding status_of
    own_infeasible (Broken which cause) reason e = reason
    own_infeasible refusal reason e =
        cc

    own_unrepaired : (refusal : Refusal) → Reason held names before now (RepairOwn held names l prints breaks) refusal →
        status_of refusal ≡ Unrepaired → (cause : Cause) × RepairPrinted held names l (Some cause) (λ text. Unit {0})
    unfolding status_of
    own_unrepaired (Left cause) reason e =
        (cause, said l (Some cause) prints reason)
    own_unrepaired refusal reason e =
        absurd (let both : status_of refusal ≡ Unrepaired = e in cc)

  -- for other words of the lots
  pub repair_more : (asked more : Lots → Type 0) (before now : Faults) (status : Status) → ((l : Lots) → asked l →
      more l) → RepairComes held names asked before now status → RepairComes held names more before now status
  repair_more asked more before now status step v = record {
    never_infeasible = v.never_infeasible;
    unrepaired = λ told. let w = v.unrepaired told in (w.0, step w.0 w.1, w.2);
    stays = λ i a0 accepts known cause broken. v.stays i a0 accepts known cause (λ l is. broken l (step l is));
    is_repaired = λ i a0 accepts known broken. v.is_repaired i a0 accepts known (λ l is. broken l (step l is));
  }

  -- if memory was refused before the words were read
  pub repair_not : (asked : Lots → Type 0) (before now : Faults) (status : Status) →
      status ≡ NoMemory → RepairComes held names asked before now status
  repair_not asked before now status is = record {
    never_infeasible = λ e. cc;
    unrepaired = λ told. cc;
    stays = λ i a0 accepts known cause broken. inr (inr is);
    is_repaired = λ i a0 accepts known broken. inr (inr is);
  }

module _ {held : Held} {names : Names} {before now : Faults} {l : Lots} {prints breaks : List ℕ → Type 0} where
  pub complete_repair : {printed : Type 0} {tells : List ℕ → Type 0} {out_same err_same : Type 0} {status : Status} →
      Ends held names before now printed (RepairOwn held names l prints breaks) tells out_same err_same status →
      AreAccepted held names → NoFault names before now → ((text : List ℕ) → breaks text → ⊥) → (status ≡ Done)
      ⊎ ((status ≡ Unrepaired) ⊎ (status ≡ NoMemory))
  complete_repair {printed} {tells} {out_same} {err_same} {status}
      ends valid sound wrote = ⊎_elim
      (λ done. inl done)
      (λ other. inr (⊎_elim
      (λ memory. inr memory)
      (λ refused.
      inl (refused.is ∙ own_wrote held names l prints breaks wrote refused.refusal refused.reason))
      other))
      (complete_own ends valid sound)

  pub repair_comes : {tells : List ℕ → Type 0} {out_same err_same : Type 0} {status : Status} → IsSome names.initial →
      EndsAt names file.Initial →
      Ends held names before now (RepairPrinted held names l None prints) (RepairOwn held names l prints breaks) tells
      out_same err_same status → RepairComes held names (λ k. k ≡ l) before now status
  repair_comes {tells} {out_same} {err_same} {status} initial last
      ends =
      let own = RepairOwn held names l prints breaks in
      record {
        never_infeasible =
            λ e. let refused = ends.refused (λ done. cc) in
            own_infeasible held names before now l prints breaks refused.refusal refused.reason
            (sym refused.is ∙ e);
        unrepaired = λ e. let refused = ends.refused (λ done. cc) in (
          l,
          refl,
          own_unrepaired held names before now l prints breaks refused.refusal refused.reason
              (sym refused.is ∙ e),
        );
        stays = λ i a0 accepts known cause leaves. ⊎_elim
            (λ done.
            cc (broken_left held names before now l _ None prints i a0
            initial accepts known (ends.printed done) (leaves l refl)))
            (λ other.
            let refused = ends.refused other in
            ⊎_elim
            (λ left. inl left.2)
            (λ rest. inr rest)
            (own_ends held names l prints breaks status refused.refusal refused.is
            (own_known held names before now own file.Initial known (λ f named _. last f named)
            (record { tables = i; a0 = a0; a = a0; accepts = accepts }) refused.refusal refused.reason)))
            (is_done status);
        is_repaired = λ i a0 accepts known leaves. ⊎_elim
            (λ done. inl done)
            (λ other.
            let refused = ends.refused other in
            ⊎_elim
            (λ left.
            cc (broken_left held names before now l None _ prints i a0
            initial accepts known left.1 (leaves l refl)))
            (λ rest. inr rest)
            (own_ends held names l prints breaks status refused.refusal refused.is
            (own_known held names before now own file.Initial known (λ f named _. last f named)
            (record { tables = i; a0 = a0; a = a0; accepts = accepts }) refused.refusal refused.reason)))
            (is_done status);
      }

-- what is said of some lots, of which there are these alone, is said of these
pub of_these : {P : Lots → Type 0} (l : Lots) → (k : Lots) × (k ≡ l) × P k → P l
of_these {P} l some = rw (← some.1) some.2

-- what the command of these lots does
pub repair_so : (names : Names) (l : Lots) → IsSome names.initial → EndsAt names file.Initial → (files : Reading)
    (out err : Output) (ended : Result (Unit {0}) Refusal) (status : Status) →
    Tries (over (repaired names (These l))) files out ended → Finishes names ended err status →
    Does (over (repaired names (These l))) files out err status
repair_so names l initial last files out err ended status tries finishes =
    let held = files.held in
    let c = repaired names (These l) in
    let prints : List ℕ → Type 0 = Took out.sink in
    let breaks : List ℕ → Type 0 = BrokeOff out.sink in
    let ends : EndsOver c files out err status = finished c files out err ended status tries finishes in
    let exact : Ends held names files.before files.after (RepairPrinted held names l None prints)
    (RepairOwn held names l prints breaks) (Put err.sink) out.same err.same status = record {
      printed = λ done. of_these {P = λ k. RepairPrinted held names k None prints} l (ends.printed done);
      no_line = ends.no_line;
      refused = λ other. let r = ends.refused other in record {
        refusal = r.refusal;
        reason = reason_more held names files.before files.after (c.refuses held prints breaks)
            (RepairOwn held names l prints breaks)
            (λ refusal reason. of_these {P = λ k. RepairOwn held names k prints breaks refusal} l reason) r.refusal
            r.reason;
        is = r.is;
        line = r.line;
        no_output = r.no_output;
      };
    } in
    does_so c files out err status ends
    (λ p. tried_listed held names p.0 None prints p.2)
    (λ r p. own_listed held names p.0 prints breaks r p.2)
    (repair_comes initial last exact)
    (λ valid sound wrote. complete_repair exact valid sound (λ text broken. wrote broken.1))
    (left_so c files out err ended status tries finishes)

-- this holds of the whole command

pub repair_command_more : (names : Names) (asked more : Lots → Type 0) (files : Reading) (out err : Output)
    (status : Status) → ((l : Lots) → asked l → more l) → Does (over (repaired names asked)) files out err status →
    Does (over (repaired names more)) files out err status
repair_command_more names asked more files out err status step does =
    let c = repaired names asked in
    let d = repaired names more in
    does_more names c.prints d.prints c.refuses d.refuses c.own_comes d.own_comes c.valid c.answers files out err status
    (λ p. (p.0, step p.0 p.1, p.2)) (λ r p. (p.0, step p.0 p.1, p.2))
    (repair_more files.held names asked more files.before files.after status step) does

pub repair_memory : (names : Names) (asked : Lots → Type 0) (files : Reading) (out err : Output) (status : Status) →
    status ≡ NoMemory → ((names : Names) → Put err.sink (refusal_line names Memory)) → out.same → Leaves files out err →
    Does (over (repaired names asked)) files out err status
repair_memory names asked files out err status is line same leaves =
    memory_refused _ files out err status is line same leaves
    (repair_not files.held names asked files.before files.after status is) (inr (inr is))
