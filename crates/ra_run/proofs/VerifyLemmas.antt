-- How `verify` ends, from how its stages end.
use Rattle.std.proofs.Common.{◌≡◌, ◌≢◌, ◌⊎◌, ℕ, ◌≤◌, List, Option, Some, None, Result, Err, IfSome, IsSome, inl, inr}
use Rattle.std.proofs.Common.{true, ⊎_elim, refl, sym, ◌∙◌, subst}
use Rattle.ra_base.specs.declared.causes.Cause.{Cause}
use Rattle.ra_base.specs.declared.ids.Machine.{Machine}
use Rattle.ra_draws.specs.declared.budgets.Lots.{Lots}
use Rattle.ra_io.specs.Faults.{Rose}
use Rattle.ra_model.specs.Assignments.{IsAssignment}
use Rattle.ra_model.specs.Feasible.{Feasible}
use Rattle.ra_model.specs.Limits.{WellFormed, Small}
use Rattle.ra_model.specs.declared.raw.Tables.{Tables}
use Rattle.ra_model.proofs.BrokenLemmas.{unbroken_from_feasible}
use Rattle.ra_token.proofs.ToldLemmas.{told_then}
use Rattle.ra_verify.specs.WrongLines.{IsWrongLine, IsReport}
use Rattle.ra_verify.specs.declared.faults.VerifyFault.{VerifyFault}
use Rattle.ra_verify.specs.declared.faults.VerifyFault.TheVariants as fault
use Rattle.ra_verify.proofs.AnswerLemmas.{one_wrong_line}
use Rattle.ra_verify.proofs.LimitLemmas.{report_has_none_wrong}
use Rattle.ra_io.specs.Outside.{Reading, Took}
use Rattle.ra_jobs.specs.declared.refusals.File.{File}
use Rattle.ra_jobs.specs.declared.refusals.File.TheVariants as file
use Rattle.ra_jobs.specs.declared.refusals.Refusal.{Refusal}
use Rattle.ra_jobs.specs.declared.refusals.Refusal.TheVariants.{Read, Broken, Wrong as WrongLine}
use Rattle.ra_jobs.specs.declared.refusals.Refusal.TheVariants.{Write, Memory}
use Rattle.ra_jobs.specs.declared.refusals.Role.{Role}
use Rattle.ra_jobs.specs.declared.refusals.Role.TheVariants as role
use Rattle.ra_jobs.specs.declared.status.Status.{Status}
use Rattle.ra_jobs.specs.declared.status.Status.TheVariants.{Done, Infeasible, Wrong, WriteFault, NoMemory}
use Rattle.ra_jobs.specs.Comes.{KnownTo, InfeasibleComes}
use Rattle.ra_jobs.specs.Complete.{AreValid}
use Rattle.ra_jobs.specs.Commands.{These, over}
use Rattle.ra_jobs.specs.Ends.{Does, Tries, Finishes, Leaves}
use Rattle.ra_jobs.specs.Files.{Held, Faults, Names, name_of, is_up_to, IsNamed, Passes}
use Rattle.ra_jobs.specs.Lines.{refusal_line}
use Rattle.ra_jobs.specs.Output.{Output, BrokeOff, Put}
use Rattle.ra_jobs.specs.Refusals.{Reason, RoleBreaks, CanTell}
use Rattle.ra_jobs.specs.Stages.{IsAcceptedStart, StartReason}
use Rattle.ra_jobs.specs.Statuses.{status_of}
use Rattle.ra_jobs.proofs.ComesLemmas.{Listed, Went, breaks_listed, infeasible_of, known_model, own_known, passed_went}
use Rattle.ra_jobs.proofs.ComesLemmas.{told_closed, told_role}
use Rattle.ra_jobs.proofs.CompleteLemmas.{OwnRefused, is_done, complete_own}
use Rattle.ra_jobs.proofs.BareLemmas.{bare}
use Rattle.ra_jobs.proofs.DoesLemmas.{does_so, does_more, infeasible_not, memory_refused}
use Rattle.ra_jobs.proofs.EndLemmas.{Ends, EndsOver, finished, left_so}
use Rattle.ra_jobs.proofs.RepairLemmas.{of_these}
use Rattle.ra_jobs.proofs.MeaningLemmas.{told_gives, no_break, instances_same, lists_same}
use Rattle.ra_jobs.proofs.StageLemmas.{breaks_start, can_tell, rose_later, reason_more}
use Rattle.ra_journal.specs.Openings.{Opening, opening}
use Rattle.ra_run.specs.Verifying.{CountReason, IsCounted, IsRead, IsRightAt, IsRightReport, IsSolved, IsWrongAt}
use Rattle.ra_run.specs.Verifying.{IsWrongReport, ReportWrong, VerdictComes, VerifyPrinted, VerifyOwn, refused_by}
use Rattle.ra_run.specs.Verifying.{verifying}
use Rattle.ra_run.proofs.AlikeLemmas.{wrong_line_same, is_report_same}
use Rattle.ra_run.proofs.SolveLemmas.{solved}

-- ---- the stages

passes_from : (held : Held) (names : Names) (i : Tables) (a0 : List Machine) → IsAcceptedStart held names i a0 →
    Feasible i a0 a0 → Passes held names i a0 a0
passes_from held names i a0 start feasible = record { accepts = start.accepts; initial = feasible; changed = feasible }

-- a right report is one of `solve`
solved_so : (held : Held) (names : Names) (o : Opening) (n : ℕ) (bytes : List ℕ) →
    WellFormed o.tables → IsAcceptedStart held names o.tables o.start → Feasible o.tables o.start o.start →
    IsRightAt o n bytes →
    IsSolved held names o.lots n bytes
unfolding solved
solved_so held names o n bytes limits start feasible right = record {
  solved = solved held names o (λ text. text ≡ bytes) limits start (record {
    start = feasible;
    journal = right.report.journal;
    legal = right.report.legal;
    whole = right.report.whole;
    text = sym right.report.text;
  });
  number = right.report.number;
  none_wrong = right.none_wrong;
}

pub read_so : (held later : Held) (names : Names) (o : Opening) (n : ℕ) →
    ((other : List ℕ) → later other ≡ held other) → WellFormed o.tables → IsAcceptedStart held names o.tables o.start →
    IsCounted later (name_of names file.Report) o n → IsRead held names o.lots n
read_so held later names o n same limits start counted = record {
  tables = o.tables;
  a0 = o.start;
  passes = passes_from held names o.tables o.start start counted.start;
  report = told_then {P = IsRightAt o n} {Q = IsSolved held names o.lots n} (held (name_of names file.Report))
      (rw (sym (same (name_of names file.Report))) counted.report)
      (λ bytes right. solved_so held names o n bytes limits start counted.start right);
}

pub reason_count : (held later : Held) (names : Names) (o : Opening)
    (first before now : Faults) (written : Type 0) → ((other : List ℕ) → later other ≡ held other) →
    ((other : List ℕ) → first other ≤ before other) → IsNamed names file.Initial → IsNamed names file.Report →
    IsAcceptedStart held names o.tables o.start → (refusal : Refusal) →
    CountReason later (name_of names file.Report) o before now refusal →
    Reason held names first now (VerifyOwn held names o.lots written) refusal
reason_count held later names o first before now written same never_fell initial report start
    (Broken role.Initial cause) reason = breaks_start held names o.tables o.start initial start.accepts cause reason
reason_count held later names o first before now written same never_fell initial report start (Read file.Report)
    reason = record {
      earlier = (o.tables, o.start, passes_from held names o.tables o.start start reason.0);
      named = report;
      rose = rose_later _ _ _ (never_fell (name_of names file.Report)) reason.1;
    }
reason_count held later names o first before now written same never_fell initial report start (WrongLine line)
    reason = record {
      tables = o.tables;
      a0 = o.start;
      passes = passes_from held names o.tables o.start start reason.0;
      wrong = rw (sym (same (name_of names file.Report))) reason.1;
    }
reason_count held later names o first before now written same never_fell initial report start Memory reason = tt
reason_count held later names o first before now written same never_fell initial report start refusal reason =
    absurd reason

-- the initial list is not feasible, or memory was refused
pub start_count : (held : Held) (name : List ℕ) (o : Opening) (before now : Faults)
    (refusal : Refusal) → StartReason o.tables o.start ⊥ refusal → CountReason held name o before now refusal
start_count held name o before now (Broken role.Initial cause) reason = reason
start_count held name o before now (Broken role.Changed cause) reason = absurd reason
start_count held name o before now Memory reason = tt
start_count held name o before now refusal reason = absurd reason

pub wrong_so : (o : Opening) (told : Option (List ℕ)) (line : ℕ) → WellFormed o.tables →
    Small o.tables → IsAssignment o.tables o.start → Feasible o.tables o.start o.start →
    IfSome told (λ bytes. IsWrongLine o bytes (Some line)) →
    IfSome told (IsWrongAt o line)
wrong_so o None line limits small fits start wrong = tt
wrong_so o (Some bytes) line limits small fits start wrong = record {
  first = wrong;
  no_report = λ n report. let both : Some line ≡ None = one_wrong_line o bytes (Some line) None wrong
      (report_has_none_wrong o bytes n limits small fits start report) in cc;
}

-- the reason of its fault, as a refusal
pub fault_so : (held : Held) (name : List ℕ) (o : Opening) (before now : Faults)
    (told : Result ℕ VerifyFault) (why : VerifyFault) → WellFormed o.tables → Small o.tables →
    IsAssignment o.tables o.start → Feasible o.tables o.start o.start →
    told ≡ Err why →
    IfSome (held name) (λ bytes. (n : ℕ) → told ≡ Err (fault.Wrong n) → IsWrongLine o bytes (Some n)) →
    (told ≡ Err fault.ReadFault → Rose (before name) (now name)) →
    CountReason held name o before now (refused_by why)
fault_so held name o before now told fault.ReadFault limits small fits start is wrong rose = (start, rose is)
fault_so held name o before now told (fault.Wrong line) limits small fits start is wrong rose = (
  start,
  wrong_so o (held name) line limits small fits start
      (told_then {P = λ bytes. (n : ℕ) → told ≡ Err (fault.Wrong n) → IsWrongLine o bytes (Some n)}
      {Q = λ bytes. IsWrongLine o bytes (Some line)} (held name) wrong (λ bytes each. each line is)),
)
fault_so held name o before now told fault.NoMemory limits small fits start is wrong rose = tt

-- ---- its own refusals

pub own_more : (held : Held) (names : Names) (l : Lots) (written more : Type 0) → (written → more) →
    (refusal : Refusal) → VerifyOwn held names l written refusal → VerifyOwn held names l more refusal
own_more held names l written more step (Broken role.Initial cause) reason = reason
own_more held names l written more step (WrongLine line) reason = reason
own_more held names l written more step Write reason = step reason
own_more held names l written more step refusal reason = reason

pub own_tells : (held : Held) (names : Names) (l : Lots) (written : Type 0) (refusal : Refusal) →
    VerifyOwn held names l written refusal → CanTell names refusal
own_tells held names l written (Broken role.Initial cause) reason = reason.named
own_tells held names l written (WrongLine line) reason = tt
own_tells held names l written Write reason = tt
own_tells held names l written refusal reason = absurd reason

pub verified_went : (held : Held) (names : Names) (l : Lots) (sent : List ℕ → Type 0) →
    VerifyPrinted held names l sent → Went held names
verified_went held names l sent v = passed_went held names v.read.tables v.read.a0 v.read.a0 v.read.passes

pub own_listed : (held : Held) (names : Names) (l : Lots) (written : Type 0) → (written → Went held names) →
    (refusal : Refusal) → VerifyOwn held names l written refusal → Listed held names
own_listed held names l written went (Broken role.Initial cause) reason =
    breaks_listed held names role.Initial cause reason
own_listed held names l written went (WrongLine line) reason = record {
  tables = reason.tables;
  a0 = reason.a0;
  a = reason.a0;
  accepts = reason.passes.accepts;
}
own_listed held names l written went Write reason = (went reason).listed
own_listed held names l written went refusal reason = absurd reason

own_stops : (held : Held) (names : Names) (l : Lots) (written : Type 0) → (written → Went held names) →
    (Went held names → ⊥) → (refusal : Refusal) → VerifyOwn held names l written refusal →
    status_of refusal ≡ Infeasible
unfolding status_of
own_stops held names l written went never (Broken role.Initial cause) reason = refl
own_stops held names l written went never (WrongLine line) reason =
    absurd (never (passed_went held names reason.tables reason.a0 reason.a0 reason.passes))
own_stops held names l written went never Write reason = absurd (never (went reason))
own_stops held names l written went never refusal reason = absurd reason

own_broke : (held : Held) (names : Names) (l : Lots) (written : Type 0) (before now : Faults) (refusal : Refusal) →
    Reason held names before now (VerifyOwn held names l written) refusal → status_of refusal ≡ Infeasible →
    (which : Role) × (cause : Cause) × RoleBreaks held names which cause
unfolding status_of
own_broke held names l written before now (Broken role.Initial cause) reason e = (role.Initial, cause, reason)
own_broke held names l written before now (Broken role.Changed cause) reason e = absurd reason
own_broke held names l written before now refusal reason e = absurd (cc)

pub verify_infeasible : {held : Held} {names : Names} {before now : Faults} {output : Type 0} {l : Lots}
    {written : Type 0} {tells : List ℕ → Type 0} {out_same err_same : Type 0} {status : Status} →
    Ends held names before now output (VerifyOwn held names l written) tells out_same err_same status →
    (output → Went held names) → (written → Went held names) → InfeasibleComes held names before now status
verify_infeasible {held} {names} {before} {now} {output} {l} {written} ends printed went =
    infeasible_of ends printed (own_broke held names l written before now)
    (λ never. own_stops held names l written went never)

own_wrong : (held : Held) (names : Names) (l : Lots) (written : Type 0) (before now : Faults) (refusal : Refusal) →
    Reason held names before now (VerifyOwn held names l written) refusal → status_of refusal ≡ Wrong → (line : ℕ)
    × ReportWrong held names l line
unfolding status_of
own_wrong held names l written before now (WrongLine line) reason e = (line, reason)
own_wrong held names l written before now refusal reason e = absurd (cc)

-- no file is read after the report
last_report : (f : File) → is_up_to f file.Report ≡ true
last_report file.Report = refl
last_report f = refl

solved_passes : (held : Held) (names : Names) (l : Lots) (n : ℕ) (bytes : List ℕ) (s : IsSolved held names l n bytes) →
    Passes held names s.solved.tables s.solved.a0 s.solved.a0
solved_passes held names l n bytes s = record {
  accepts = s.solved.accepts;
  initial = s.solved.start;
  changed = s.solved.start;
}

-- what is wrong or right for one instance that the other files mean is so for each

abbrev AllWrong : Held → Names → Lots → ℕ → Type 0
AllWrong held names l line =
    (i : Tables) (a0 : List Machine) → Passes held names i a0 a0 → IsWrongReport held names (opening i a0 l) line

abbrev AllRight : Held → Names → Lots → Type 0
AllRight held names l = (i : Tables) (a0 : List Machine) → Passes held names i a0 a0 →
    IsRightReport held names (opening i a0 l)

module _ (held : Held) (names : Names) (before now : Faults) (initial : IsSome names.initial)
    (known : KnownTo held names before now file.Report) (i : Tables) (a0 : List Machine)
    (passes : Passes held names i a0 a0) where
  instance_same : (j : Tables) (b0 : List Machine) → Passes held names j b0 b0 → bare i ≡ bare j
  instance_same j b0 other = instances_same held names.model names.closed
      (known_model held names before now file.Report known)
      (told_closed held names before now file.Report refl known) i j passes.accepts.instance other.accepts.instance

  start_same : (j : Tables) (b0 : List Machine) → Passes held names j b0 b0 → a0 ≡ b0
  start_same j b0 other = lists_same held names.initial
      (told_role held names before now role.Initial file.Report refl known) initial i j a0 b0 passes.accepts.initial
      other.accepts.initial

  all_wrong : (l : Lots) (line : ℕ) → IsWrongReport held names (opening i a0 l) line → AllWrong held names l line
  all_wrong l line wrong j b0 other =
      told_then {P = λ bytes. IsWrongLine (opening i a0 l) bytes (Some line)}
      {Q = λ bytes. IsWrongLine (opening j b0 l) bytes (Some line)}
      (held (name_of names file.Report)) wrong
      (λ bytes is. subst (λ (a : List Machine). IsWrongLine (opening j a l) bytes (Some line)) (start_same j b0 other)
      (wrong_line_same i j (instance_same j b0 other) a0 l bytes (Some line) is))

  all_right : (l : Lots) → IsRightReport held names (opening i a0 l) → AllRight held names l
  all_right l right j b0 other =
      told_then {P = λ bytes. (n : ℕ) × IsReport (opening i a0 l) bytes n}
      {Q = λ bytes. (n : ℕ) × IsReport (opening j b0 l) bytes n}
      (held (name_of names file.Report)) right
      (λ bytes is. (
        is.0,
        subst (λ (a : List Machine). IsReport (opening j a l) bytes is.0) (start_same j b0 other)
            (is_report_same i j (instance_same j b0 other) a0 l bytes is.0 is.1),
      ))

  -- the initial list breaks no constraint
  no_start_breaks : (cause : Cause) → RoleBreaks held names role.Initial cause → ⊥
  no_start_breaks cause breaks =
      let told = told_role held names before now role.Initial file.Report refl known in
      no_break held names role.Initial (known_model held names before now file.Report known)
      (told_closed held names before now file.Report refl known) told told cause breaks i a0 a0 passes.accepts
      passes.initial

-- no report is accepted that has a wrong line
read_not : (held : Held) (names : Names) (l : Lots) (line n : ℕ) → IsSome (held (name_of names file.Report)) →
    AllWrong held names l line → IsRead held names l n → ⊥
read_not held names l line n told wrong read = go (held (name_of names file.Report)) told read.report wrong
  where
    go : (o : Option (List ℕ)) → IsSome o → IfSome o (IsSolved held names l n) →
        ((i : Tables) (a0 : List Machine) → Passes held names i a0 a0 →
        IfSome o (λ bytes. IsWrongLine (opening i a0 l) bytes (Some line))) → ⊥
    go None some is first = absurd (cc)
    go (Some bytes) some is first =
        let both : None ≡ Some line = one_wrong_line (opening is.solved.tables is.solved.a0 l) bytes None (Some line)
        is.none_wrong (first is.solved.tables is.solved.a0 (solved_passes held names l n bytes is)) in
        cc

-- and none is wrong that is right
wrong_not : (held : Held) (names : Names) (l : Lots) (line : ℕ) → IsSome (held (name_of names file.Report)) →
    AllRight held names l → ReportWrong held names l line → ⊥
wrong_not held names l line told right wrong =
    told_gives ⊥ (IsWrongAt (opening wrong.tables wrong.a0 l) line)
    (λ bytes. (n : ℕ) × IsReport (opening wrong.tables wrong.a0 l) bytes n) (held (name_of names file.Report)) told
    (λ bytes is report. is.no_report report.0 report.1) wrong.wrong (right wrong.tables wrong.a0 wrong.passes)

wrong_own : (held : Held) (names : Names) (before now : Faults) (l : Lots) (sent : List ℕ → Type 0) →
    IsSome names.initial → IsSome names.report → KnownTo held names before now file.Report → (i : Tables)
    (a0 : List Machine) → Passes held names i a0 a0 → (line : ℕ) → AllWrong held names l line → (refusal : Refusal) →
    VerifyOwn held names l (VerifyPrinted held names l sent) refusal → status_of refusal ≡ Wrong
unfolding status_of
wrong_own held names before now l sent initial report known i a0 passes line wrong (Broken role.Initial cause) reason =
    absurd (no_start_breaks held names before now initial known i a0 passes cause reason)
wrong_own held names before now l sent initial report known i a0 passes line wrong (WrongLine other) reason = refl
wrong_own held names before now l sent initial report known i a0 passes line wrong Write reason =
    absurd (read_not held names l line reason.entries (known file.Report refl report).0 wrong reason.read)
wrong_own held names before now l sent initial report known i a0 passes line wrong refusal reason = absurd reason

right_own : (held : Held) (names : Names) (before now : Faults) (l : Lots) (sent : List ℕ → Type 0) →
    IsSome names.initial → IsSome names.report → KnownTo held names before now file.Report → (i : Tables)
    (a0 : List Machine) → Passes held names i a0 a0 → AllRight held names l → (refusal : Refusal) →
    VerifyOwn held names l (VerifyPrinted held names l sent) refusal → status_of refusal ≡ WriteFault
unfolding status_of
right_own held names before now l sent initial report known i a0 passes right (Broken role.Initial cause) reason =
    absurd (no_start_breaks held names before now initial known i a0 passes cause reason)
right_own held names before now l sent initial report known i a0 passes right (WrongLine line) reason =
    absurd (wrong_not held names l line (known file.Report refl report).0 right reason)
right_own held names before now l sent initial report known i a0 passes right Write reason = refl
right_own held names before now l sent initial report known i a0 passes right refusal reason = absurd reason

pub verify_verdict : {held : Held} {before now : Faults} {tells : List ℕ → Type 0} {out_same err_same : Type 0}
    {status : Status} (names : Names) (l : Lots) (asked : Lots → Type 0) (prints breaks : List ℕ → Type 0) →
    IsSome names.initial → IsSome names.report → asked l →
    Ends held names before now (VerifyPrinted held names l prints)
    (VerifyOwn held names l (VerifyPrinted held names l breaks)) tells out_same err_same status →
    VerdictComes held names asked before now status
verify_verdict {held} {before} {now} {tells} {out_same} {err_same} {status} names l asked prints breaks initial report
    is ends =
    let own : Refusal → Type 0 = VerifyOwn held names l (VerifyPrinted held names l breaks) in
    record {
      wrong = λ (told : status ≡ Wrong).
          let refused = ends.refused (λ (done : status ≡ Done). let e : Done ≡ Wrong = sym done ∙ told in cc) in (
            l,
            is,
            own_wrong held names l (VerifyPrinted held names l breaks) before now refused.refusal refused.reason
                (sym refused.is ∙ told),
          );
      is_wrong = λ i a0 passes known line wrong. ⊎_elim
          (λ (done : status ≡ Done). let v = ends.printed done in
          absurd (read_not held names l line v.entries (known file.Report refl report).0
          (all_wrong held names before now initial known i a0 passes l line (wrong l is)) v.read))
          (λ (other : status ≢ Done).
          let refused = ends.refused other in
          ⊎_elim
          (λ (reason : own refused.refusal).
          inl (refused.is ∙ wrong_own held names before now l breaks initial report known i a0 passes line
          (all_wrong held names before now initial known i a0 passes l line (wrong l is)) refused.refusal reason))
          (λ (memory : status_of refused.refusal ≡ NoMemory). inr (refused.is ∙ memory))
          (own_known held names before now own file.Report known (λ f _ _. last_report f)
          (record { tables = i; a0 = a0; a = a0; accepts = passes.accepts }) refused.refusal refused.reason))
          (is_done status);
      is_right = λ i a0 passes known right. ⊎_elim
          (λ (done : status ≡ Done). inl done)
          (λ (other : status ≢ Done).
          let refused = ends.refused other in
          ⊎_elim
          (λ (reason : own refused.refusal).
          inr (inl (refused.is ∙ right_own held names before now l breaks initial report known i a0 passes
          (all_right held names before now initial known i a0 passes l (right l is)) refused.refusal reason)))
          (λ (memory : status_of refused.refusal ≡ NoMemory). inr (inr (refused.is ∙ memory)))
          (own_known held names before now own file.Report known (λ f _ _. last_report f)
          (record { tables = i; a0 = a0; a = a0; accepts = passes.accepts }) refused.refusal refused.reason))
          (is_done status);
    }

-- over valid files a verdict is told
valid_own : (held : Held) (names : Names) (l : Lots) (written : Type 0) → AreValid held names → (written → ⊥) →
    (refusal : Refusal) → VerifyOwn held names l written refusal → status_of refusal ≡ Wrong
unfolding status_of
valid_own held names l written valid wrote (Broken role.Initial cause) reason =
    let none = unbroken_from_feasible reason.tables reason.a0 reason.a0
    (valid.initial reason.named reason.tables reason.a0 reason.a reason.accepts) in
    absurd (let both : None ≡ Some cause = sym none ∙ reason.breaks in cc)
valid_own held names l written valid wrote (WrongLine line) reason = refl
valid_own held names l written valid wrote Write reason = absurd (wrote reason)
valid_own held names l written valid wrote refusal reason = absurd reason

pub verify_complete : (held : Held) (names : Names) (l : Lots) (written : Type 0) (status : Status) →
    AreValid held names → (written → ⊥) → (status ≡ Done)
    ⊎ ((status ≡ NoMemory) ⊎ OwnRefused (VerifyOwn held names l written) status) → (status ≡ Done)
    ⊎ ((status ≡ Wrong) ⊎ (status ≡ NoMemory))
verify_complete held names l written status valid wrote ended = ⊎_elim
    (λ (done : status ≡ Done). inl done)
    (λ (other : (status ≡ NoMemory) ⊎ OwnRefused (VerifyOwn held names l written) status). inr (⊎_elim
    (λ (memory : status ≡ NoMemory). inr memory)
    (λ (refused : OwnRefused (VerifyOwn held names l written) status).
    inl (refused.is ∙ valid_own held names l written valid wrote refused.refusal refused.reason))
    other))
    ended

-- for other words of the lots
pub verdict_more : (held : Held) (names : Names) (asked more : Lots → Type 0) (before now : Faults) (status : Status) →
    ((l : Lots) → asked l → more l) → VerdictComes held names asked before now status →
    VerdictComes held names more before now status
verdict_more held names asked more before now status step v = record {
  wrong = λ told. let w = v.wrong told in (w.0, step w.0 w.1, w.2);
  is_wrong = λ i a0 passes known line wrong. v.is_wrong i a0 passes known line (λ l is. wrong l (step l is));
  is_right = λ i a0 passes known right. v.is_right i a0 passes known (λ l is. right l (step l is));
}

pub can_tell_verdict : (held : Held) (names : Names) (before now : Faults) (l : Lots) (written : Type 0)
    (refusal : Refusal) → Reason held names before now (VerifyOwn held names l written) refusal → CanTell names refusal
can_tell_verdict held names before now l written =
    can_tell held names before now (VerifyOwn held names l written) (own_tells held names l written)

-- a refusal before anything was written
pub reason_unwritten_verdict : (held : Held) (names : Names) (before now : Faults) (l : Lots) (written : Type 0)
    (refusal : Refusal) → Reason held names before now (VerifyOwn held names l ⊥) refusal →
    Reason held names before now (VerifyOwn held names l written) refusal
reason_unwritten_verdict held names before now l written refusal reason =
    reason_more held names before now (VerifyOwn held names l ⊥) (VerifyOwn held names l written)
    (own_more held names l ⊥ written (λ none. absurd none)) refusal reason

-- if memory was refused before the words were read
pub verdict_not : (held : Held) (names : Names) (asked : Lots → Type 0) (before now : Faults) (status : Status) →
    status ≡ NoMemory → VerdictComes held names asked before now status
verdict_not held names asked before now status is = record {
  wrong = λ told. absurd (let both : NoMemory ≡ Wrong = sym is ∙ told in cc);
  is_wrong = λ i a0 passes known line wrong. inr is;
  is_right = λ i a0 passes known right. inr (inr is);
}

-- what the command does

-- a refusal of these lots, as one of some
pub reason_these_lots : (held : Held) (names : Names) (l : Lots) (before now : Faults) (sent : List ℕ → Type 0)
    (refusal : Refusal) → Reason held names before now (VerifyOwn held names l (VerifyPrinted held names l sent))
    refusal → Reason held names before now ((verifying names (These l)).refuses held sent sent) refusal
reason_these_lots held names l before now sent =
    reason_more held names before now (VerifyOwn held names l (VerifyPrinted held names l sent))
    ((verifying names (These l)).refuses held sent sent) (λ r own. (l, refl, own))

pub verify_so : (names : Names) (l : Lots) → IsSome names.initial → IsSome names.report → (files : Reading)
    (out err : Output) (ended : Result (Unit {0}) Refusal) (status : Status) →
    Tries (over (verifying names (These l))) files out ended → Finishes names ended err status →
    Does (over (verifying names (These l))) files out err status
verify_so names l initial report files out err ended status tries finishes =
    let held = files.held in
    let c = verifying names (These l) in
    let prints : List ℕ → Type 0 = Took out.sink in
    let breaks : List ℕ → Type 0 = BrokeOff out.sink in
    let written = VerifyPrinted held names l breaks in
    let ends : EndsOver c files out err status = finished c files out err ended status tries finishes in
    let exact : Ends held names files.before files.after (VerifyPrinted held names l prints)
    (VerifyOwn held names l written) (Put err.sink) out.same err.same status = record {
      printed = λ done. of_these {P = λ k. VerifyPrinted held names k prints} l (ends.printed done);
      no_line = ends.no_line;
      refused = λ other. let r = ends.refused other in record {
        refusal = r.refusal;
        reason = reason_more held names files.before files.after (c.refuses held prints breaks)
            (VerifyOwn held names l written)
            (λ refusal reason. of_these {P = λ k. VerifyOwn held names k (VerifyPrinted held names k breaks) refusal} l
            reason) r.refusal r.reason;
        is = r.is;
        line = r.line;
        no_output = r.no_output;
      };
    } in
    does_so c files out err status ends
    (λ p. (verified_went held names p.0 prints p.2).listed)
    (λ r p. own_listed held names p.0 (VerifyPrinted held names p.0 breaks) (verified_went held names p.0 breaks) r
    p.2) (
      verify_infeasible exact (verified_went held names l prints) (verified_went held names l breaks),
      verify_verdict names l (These l) prints breaks initial report refl exact,
    )
    (λ valid sound wrote. verify_complete held names l written status valid (λ broken. wrote broken.text.1)
    (complete_own exact valid.accepted sound))
    (left_so c files out err ended status tries finishes)

pub verify_more : (names : Names) (asked more : Lots → Type 0) (files : Reading) (out err : Output) (status : Status) →
    ((l : Lots) → asked l → more l) → Does (over (verifying names asked)) files out err status →
    Does (over (verifying names more)) files out err status
verify_more names asked more files out err status step does =
    let c = verifying names asked in
    let d = verifying names more in
    does_more names c.prints d.prints c.refuses d.refuses c.own_comes d.own_comes c.valid c.answers files out err status
    (λ p. (p.0, step p.0 p.1, p.2)) (λ r p. (p.0, step p.0 p.1, p.2))
    (λ own. (own.0, verdict_more files.held names asked more files.before files.after status step own.1)) does

pub verify_memory : (names : Names) (asked : Lots → Type 0) (files : Reading) (out err : Output) (status : Status) →
    status ≡ NoMemory → ((names : Names) → Put err.sink (refusal_line names Memory)) → out.same → Leaves files out err →
    Does (over (verifying names asked)) files out err status
verify_memory names asked files out err status is line same leaves =
    memory_refused (verifying names asked) files out err status is line same leaves (
      infeasible_not files.held names files.before files.after status is,
      verdict_not files.held names asked files.before files.after status is,
    ) (inr (inr is))
