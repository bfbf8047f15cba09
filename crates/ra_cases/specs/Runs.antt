-- The runs of a case.
use Rattle.std.specs.Prelude.{◌≡◌, ℕ, ◌<◌, List, [], ◌∷◌, length, slice_index, Option, Some, None, IfSome}
use Rattle.ra_io.specs.MemoryFiles as files
use Rattle.ra_io.specs.MemorySink as sinks
use Rattle.ra_io.specs.declared.memory.MemoryFiles.{MemoryFiles}
use Rattle.ra_io.specs.declared.memory.MemorySink.{MemorySink}
use Rattle.ra_io.specs.Outside.{Reading}
use Rattle.ra_words.specs.Words.{texts}
use Rattle.ra_words.specs.Jobs.{job_of}
use Rattle.ra_jobs.specs.declared.status.Status.{Status}
use Rattle.ra_jobs.specs.Ends.{Does}
use Rattle.ra_jobs.specs.Output.{Output}
use Rattle.ra_jobs.specs.Statuses.{status_number}
use Rattle.ra_run.specs.Commands.{UsageComes, command_of}
use Rattle.ra_anneal.specs.Jobs as anneal_jobs
use Rattle.ra_anneal.specs.Commands as anneal
use Rattle.ra_cases.specs.declared.asking.Asked.{Asked}
use Rattle.ra_cases.specs.declared.asking.Program.{Program}
use Rattle.ra_cases.specs.declared.asking.Program.TheVariants.{Reassign, Anneal}
use Rattle.ra_cases.specs.declared.stages.Stage.{Stage}
use Rattle.ra_cases.specs.declared.trying.TheConstants.{CUTS}

-- files and a sink in memory, as a run finds them and as it leaves them
abbrev pub read_from : MemoryFiles → MemoryFiles → Reading
read_from old new = record {
  held = files.held old;
  held_after = files.held new;
  before = λ name. files.faults old;
  after = λ name. files.faults new;
}

abbrev pub put_to : MemorySink → MemorySink → Output
put_to old new = record {
  sink = record {
    taken = Some (sinks.bytes old);
    taken_after = Some (sinks.bytes new);
    before = sinks.faults old;
    after = sinks.faults new;
  };
  same = new ≡ old;
}

-- a run of a program with these words keeps what the program's top call promises
abbrev pub Keeps : Program → List (List ℕ) → Stage → Stage → Status → Type 0
Keeps Reassign words old new status =
    UsageComes (job_of words) (put_to old.out new.out) (put_to old.err new.err) status
    × IfSome (job_of words) (λ says. Does (command_of says) (read_from old.files new.files)
    (put_to old.out new.out) (put_to old.err new.err) status)
Keeps Anneal words old new status =
    anneal.UsageComes (anneal_jobs.job_of words) (put_to old.out new.out) (put_to old.err new.err)
    status
    × IfSome (anneal_jobs.job_of words) (λ says. Does (anneal.command_of says)
    (read_from old.files new.files) (put_to old.out new.out) (put_to old.err new.err) status)

-- a stage on which nothing ran: its files give at most `each` bytes at once, and its sinks are empty
pub record IsReady (each : ℕ) (stage : Stage) : Type 0 where
  pub gives : files.each stage.files ≡ each
  pub no_out : sinks.bytes stage.out ≡ []
  pub no_err : sinks.bytes stage.err ≡ []

-- a run of what a case asks for ended as it should: with this status, this output and this error line
pub record Ends (asked : Asked) (old new : Stage) : Type 0 where
  pub status : Status
  pub keeps : Keeps asked.program (texts asked.words.now) old new status
  pub number : status_number status ≡ asked.ending.status
  pub out : sinks.bytes new.out ≡ asked.ending.out.now
  pub err : sinks.bytes new.err ≡ asked.ending.err.now

-- on a stage whose files give at most `each` bytes at once a run ended as it should
pub record RunsAt (asked : Asked) (each : ℕ) : Type 0 where
  pub old : Stage
  pub new : Stage
  pub ready : IsReady each old
  pub ends : Ends asked old new

-- a run with each of these cuts ended as it should
abbrev pub RunsAtEach : Asked → List ℕ → Type 0
RunsAtEach asked cuts = (k : ℕ) → k < length cuts → RunsAt asked (slice_index cuts k)

-- how many bytes files give at once: as many as a case says, or each of the cuts in turn
abbrev pub cuts_of : Option ℕ → List ℕ
cuts_of None = CUTS
cuts_of (Some each) = each ∷ []

-- all runs of a case ended as they should
abbrev pub EndsSo : Asked → Type 0
EndsSo asked = RunsAtEach asked (cuts_of asked.gives)
