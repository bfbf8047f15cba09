-- `verify`: the report of a run is accepted, or its wrong line is told.
use Rattle.std.specs.Prelude.{◌≡◌, ◌⊎◌, ℕ, List, length, Option, Some, None, IfSome}
use Rattle.ra_base.specs.declared.ids.Machine.{Machine}
use Rattle.ra_draws.specs.declared.budgets.Lots.{Lots}
use Rattle.ra_io.specs.Faults.{Rose}
use Rattle.ra_model.specs.declared.raw.Tables.{Tables}
use Rattle.ra_model.specs.Feasible.{Feasible}
use Rattle.ra_report.specs.JournalTexts.{accepted_line}
use Rattle.ra_verify.specs.WrongLines.{IsWrongLine, IsReport}
use Rattle.ra_verify.specs.declared.faults.VerifyFault.{VerifyFault}
use Rattle.ra_verify.specs.declared.faults.VerifyFault.TheVariants as fault
use Rattle.ra_jobs.specs.declared.refusals.File.TheVariants as file
use Rattle.ra_jobs.specs.declared.refusals.Refusal.{Refusal}
use Rattle.ra_jobs.specs.declared.refusals.Refusal.TheVariants.{Read, Broken, Wrong as WrongLine, Write, Memory}
use Rattle.ra_jobs.specs.declared.refusals.Role.TheVariants as role
use Rattle.ra_jobs.specs.declared.status.Status.{Status}
use Rattle.ra_jobs.specs.declared.status.Status.TheVariants.{Done, Wrong, WriteFault, NoMemory}
use Rattle.ra_jobs.specs.Comes.{KnownTo, InfeasibleComes}
use Rattle.ra_jobs.specs.Commands.{Command, OverFiles, over}
use Rattle.ra_jobs.specs.Complete.{AreValid}
use Rattle.ra_jobs.specs.Files.{Held, Faults, Names, name_of, Passes, verify_names}
use Rattle.ra_jobs.specs.Refusals.{RoleBreaks}
use Rattle.ra_jobs.specs.Stages.{StartReason}
use Rattle.ra_journal.specs.Openings.{Opening, opening}
use Rattle.ra_run.specs.Headline.{SolvePrinted}

-- the bytes are a report of `solve`, the headline, whose journal has this number of entries; none of its lines is wrong
pub record IsSolved (held : Held) (names : Names) (l : Lots) (entries : ℕ) (bytes : List ℕ) : Type 0
  where
    pub solved : SolvePrinted held names l (λ text. text ≡ bytes)
    pub number : length solved.journal ≡ entries
    pub none_wrong : IsWrongLine (opening solved.tables solved.a0 l) bytes None

-- the other files pass, and the told bytes of the report are a report of `solve`
pub record IsRead (held : Held) (names : Names) (l : Lots) (entries : ℕ) : Type 0 where
  pub tables : Tables
  pub a0 : List Machine
  pub passes : Passes held names tables a0 a0
  pub report : IfSome (held (name_of names file.Report)) (IsSolved held names l entries)

-- the report is accepted: the line with the number of its entries was sent
pub record VerifyPrinted (held : Held) (names : Names) (l : Lots) (sent : List ℕ → Type 0) : Type 0 where
  pub entries : ℕ
  pub read : IsRead held names l entries
  pub text : sent (accepted_line entries)

-- this is the wrong line of these bytes, so that they are not the report of a legal whole journal
pub record IsWrongAt (o : Opening) (line : ℕ) (bytes : List ℕ) : Type 0 where
  pub first : IsWrongLine o bytes (Some line)
  pub no_report : (n : ℕ) → IsReport o bytes n → ⊥

-- the other files pass, and this is the wrong line of the told report
pub record ReportWrong (held : Held) (names : Names) (l : Lots) (line : ℕ) : Type 0 where
  pub tables : Tables
  pub a0 : List Machine
  pub passes : Passes held names tables a0 a0
  pub wrong : IfSome (held (name_of names file.Report)) (IsWrongAt (opening tables a0 l) line)

-- its own refusals
abbrev pub VerifyOwn : Held → Names → Lots → Type 0 → Refusal → Type 0
VerifyOwn held names l written (Broken role.Initial cause) = RoleBreaks held names role.Initial cause
VerifyOwn held names l written (WrongLine line) = ReportWrong held names l line
VerifyOwn held names l written Write = written
VerifyOwn held names l written refusal = ⊥

-- this is the wrong line of the told report
abbrev pub IsWrongReport : Held → Names → Opening → ℕ → Type 0
IsWrongReport held names o line =
    IfSome (held (name_of names file.Report)) (λ bytes. IsWrongLine o bytes (Some line))

-- the told report is that of a legal whole journal
abbrev pub IsRightReport : Held → Names → Opening → Type 0
IsRightReport held names o =
    IfSome (held (name_of names file.Report)) (λ bytes. (n : ℕ) × IsReport o bytes n)

-- for the lots that were asked for: the status of a wrong report comes only for one. If the files are known and the
-- others pass, every wrong report gets this status and every right report is accepted, unless writing fails or memory
-- is refused. This holds for any instance that the other files mean: by `told_files_mean_one` and `alike_run_alike` of
-- `ra_laws` a report is wrong for one of them exactly if it is wrong for each
pub record VerdictComes (held : Held) (names : Names) (asked : Lots → Type 0) (before now : Faults)
    (status : Status) : Type 0 where
  pub wrong : status ≡ Wrong → (l : Lots) × asked l × ((line : ℕ) × ReportWrong held names l line)
  pub is_wrong : (i : Tables) (a0 : List Machine) → Passes held names i a0 a0
      → KnownTo held names before now file.Report → (line : ℕ)
      → ((l : Lots) → asked l → IsWrongReport held names (opening i a0 l) line)
      → (status ≡ Wrong) ⊎ (status ≡ NoMemory)
  pub is_right : (i : Tables) (a0 : List Machine) → Passes held names i a0 a0
      → KnownTo held names before now file.Report
      → ((l : Lots) → asked l → IsRightReport held names (opening i a0 l))
      → (status ≡ Done) ⊎ ((status ≡ WriteFault) ⊎ (status ≡ NoMemory))

-- the own part of `verify`, for the lots that were asked for: over valid files the report is accepted, or its wrong
-- line told, or memory was refused
abbrev pub verifying : Names → (Lots → Type 0) → OverFiles
verifying names asked = record {
  names = names;
  prints = λ held sent. (l : Lots) × asked l × VerifyPrinted held names l sent;
  refuses = λ held took broke_off refusal.
      (l : Lots) × asked l × VerifyOwn held names l (VerifyPrinted held names l broke_off) refusal;
  own_comes = λ files status.
      InfeasibleComes files.held names files.before files.after status
      × VerdictComes files.held names asked files.before files.after status;
  valid = λ held. AreValid held names;
  answers = λ status. (status ≡ Done) ⊎ ((status ≡ Wrong) ⊎ (status ≡ NoMemory));
}

abbrev pub verify_command : List ℕ → List ℕ → List ℕ → Option (List ℕ) → (Lots → Type 0) → Command
verify_command model initial report closed asked =
    over (verifying (verify_names model initial report closed) asked)

-- ---- the stages

-- these bytes are the report of a legal whole journal with this number of entries, and none of their lines is wrong
pub record IsRightAt (o : Opening) (entries : ℕ) (bytes : List ℕ) :
    Type 0 where
  pub report : IsReport o bytes entries
  pub none_wrong : IsWrongLine o bytes None

-- the initial list is feasible, and the told report is that of a legal whole journal with this number of entries
pub record IsCounted (held : Held) (name : List ℕ) (o : Opening) (entries : ℕ) : Type 0 where
  pub start : Feasible o.tables o.start o.start
  pub report : IfSome (held name) (IsRightAt o entries)

-- why the report is refused: the initial list is not feasible; or it is, and reading the report failed or one of its
-- lines is wrong; or memory was refused
abbrev pub CountReason : Held → List ℕ → Opening → Faults → Faults → Refusal → Type 0
CountReason held name o before now (Read file.Report) =
    Feasible o.tables o.start o.start × Rose (before name) (now name)
CountReason held name o before now (WrongLine line) =
    Feasible o.tables o.start o.start × IfSome (held name) (IsWrongAt o line)
CountReason held name o before now refusal = StartReason o.tables o.start ⊥ refusal

-- the refusal of a job whose report was not accepted
abbrev pub refused_by : VerifyFault → Refusal
refused_by fault.ReadFault = Read file.Report
refused_by (fault.Wrong line) = WrongLine line
refused_by fault.NoMemory = Memory
