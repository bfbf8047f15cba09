-- How a command ends, and how its stages end.
use Rattle.std.specs.Prelude.{◌≡◌, ◌≢◌, ◌≤◌, ℕ, List, Bool, true, false, Result, Ok, OnOk, IfErr}
use Rattle.std.specs.Borrow.{MutBor}
use Rattle.ra_io.specs.declared.outside.Files as files
use Rattle.ra_io.specs.declared.outside.Sink as sink
use Rattle.ra_io.specs.Outside.{Reading, LeavesFiles, reading, Took, WriteFailed}
use Rattle.ra_jobs.specs.declared.outside.Outside.{Outside}
use Rattle.ra_jobs.specs.declared.refusals.Refusal.{Refusal}
use Rattle.ra_jobs.specs.declared.refusals.Refusal.TheVariants.{Unrepaired, Write}
use Rattle.ra_jobs.specs.declared.status.Status.{Status}
use Rattle.ra_jobs.specs.declared.status.Status.TheVariants.{Done, Usage}
use Rattle.ra_jobs.specs.Commands.{Command}
use Rattle.ra_jobs.specs.Files.{Names}
use Rattle.ra_jobs.specs.Lines.{refusal_line}
use Rattle.ra_jobs.specs.Output.{Output, output, BrokeOff, Put}
use Rattle.ra_jobs.specs.Statuses.{status_of}

-- a refusal that comes after a part of the output or all of it was put
abbrev pub puts_first : Refusal → Bool
puts_first (Unrepaired cause) = true
puts_first Write = true
puts_first refusal = false

-- a command is refused: the reason of its refusal holds, its status is that of the refusal, its line is put to the
-- error sink, and the output took nothing, unless the refusal came after it
pub record Refused (c : Command) (files : Reading) (out err : Output) (status : Status) : Type 0
  where
    pub refusal : Refusal
    pub reason : c.refuses files (Took out.sink) (BrokeOff out.sink) refusal
    pub is : status ≡ status_of refusal
    pub line : Put err.sink (refusal_line c.names refusal)
    pub no_output : puts_first refusal ≡ false → out.same

-- what every command leaves of the files and of the two sinks: they hold all that they held, and no count fell
pub record Leaves (files : Reading) (out err : Output) : Type 0 where
  pub of_files : LeavesFiles files
  pub out_never_falls : out.sink.before ≤ out.sink.after
  pub err_never_falls : err.sink.before ≤ err.sink.after

-- a command does what it promises: it is done, its output was printed and the error sink took nothing; or it is
-- refused. Each status comes only if its cause holds. If nothing is wrong with its files, and neither reading nor
-- writing failed, it is done, or ends with a verdict of its own, or memory was refused
pub record Does (c : Command) (files : Reading) (out err : Output) (status : Status) : Type 0 where
  pub printed : status ≡ Done → c.prints files.held (Took out.sink)
  pub no_line : status ≡ Done → err.same
  pub refused : status ≢ Done → Refused c files out err status
  pub not_usage : status ≢ Usage
  pub comes : c.comes files out status
  pub complete : c.valid files → (WriteFailed out.sink → ⊥) → c.answers status
  pub leaves : Leaves files out err

-- it does so with the files and sinks of an outside that it borrows: `entry` is their state before, `exit` after
abbrev pub DoesOutside : {F O E : Type 0} → files.Ghosts F → sink.Ghosts O → sink.Ghosts E → Command
    → Outside F O E → MutBor F × (MutBor O × (MutBor E × Unit {0})) → Status → Type 0
DoesOutside reads puts tells c entry exit status =
    Does c (reading reads entry.files.now exit.0.now) (output puts entry.out.now exit.1.0.now)
    (output tells entry.err.now exit.1.1.0.now) status

-- ---- the stages

-- a command does all but put the line of its refusal
pub record Tries (c : Command) (files : Reading) (out : Output)
    (ended : Result (Unit {0}) Refusal) : Type 0 where
  pub printed : OnOk ended (c.prints files.held (Took out.sink))
  pub refused : IfErr ended (c.refuses files (Took out.sink) (BrokeOff out.sink))
  pub no_output : IfErr ended (λ refusal. puts_first refusal ≡ false → out.same)
  pub leaves : LeavesFiles files
  pub never_falls : out.sink.before ≤ out.sink.after

-- it ends: it is done, or its refusal is told. The status is that of the refusal, even if a put fails
pub record Finishes (names : Names) (ended : Result (Unit {0}) Refusal) (err : Output)
    (status : Status) : Type 0 where
  pub done : ended ≡ Ok tt → status ≡ Done
  pub no_line : ended ≡ Ok tt → err.same
  pub is : IfErr ended (λ refusal. status ≡ status_of refusal)
  pub line : IfErr ended (λ refusal. Put err.sink (refusal_line names refusal))
  pub never_falls : err.sink.before ≤ err.sink.after
