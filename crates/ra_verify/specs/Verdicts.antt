-- What each stage of a check tells of a report, whose bytes may be told, and what it leaves.
use Rattle.std.specs.Prelude.{◌≡◌, ◌≢◌, ℕ, ◌+◌, ◌≤◌, Bool, true, false, List, [], length, Some, None, Result, Ok, Err, IfSome, IfOk, OnOk}
use Rattle.ra_bounds.specs.declared.costs.Bound.{Bound}
use Rattle.ra_bounds.specs.PinnedBounds.{pinned_bound_of}
use Rattle.ra_io.specs.Outside.{Reading, LeavesFiles, ReadFailed}
use Rattle.ra_token.specs.Lines.{lines_of}
use Rattle.ra_token.specs.Reading.{Reads}
use Rattle.ra_token.specs.LineStanding.{Standing}
use Rattle.ra_journal.specs.declared.entries.Entry.{Entry}
use Rattle.ra_journal.specs.Journals.{opening_in}
use Rattle.ra_journal.specs.Openings.{Opening}
use Rattle.ra_model.specs.Situations.{Situation, situation}
use Rattle.ra_verify.specs.declared.checker.Checker.{Checker}
use Rattle.ra_verify.specs.declared.faults.VerifyFault.{VerifyFault}
use Rattle.ra_verify.specs.declared.faults.VerifyFault.TheVariants as why
use Rattle.ra_verify.specs.Checking.{checker_entries, IsOpen, IsSameRun, HasTakenSomeEntry}
use Rattle.ra_verify.specs.Reading.{AreRead, IsHead, IsWrongNext}
use Rattle.ra_verify.specs.WrongLines.{AreAllRight, IsWrongLine, IsReport, first_over_long}

-- the report of a run of these lots was checked: it is accepted if no line is wrong, and then it is the report of a
-- legal whole journal with this number of entries; else its wrong line is told
pub record TellsVerdict (o : Opening) (files : Reading)
    (name : List ℕ) (told : Result ℕ VerifyFault) : Type 0 where
  pub none_wrong :
      IfSome (files.held name) (λ bytes. IfOk told (λ n. IsWrongLine o bytes None))
  pub report : IfSome (files.held name) (λ bytes. IfOk told (λ n. IsReport o bytes n))
  pub wrong :
      IfSome (files.held name) (λ bytes. (n : ℕ) → told ≡ Err (why.Wrong n)
      → IsWrongLine o bytes (Some n))
  pub fault : told ≡ Err why.ReadFault → ReadFailed files name
  pub leaves : LeavesFiles files

-- this holds of the run of a checker
abbrev pub TellsOf : Checker → Reading → List ℕ → Result ℕ VerifyFault → Type 0
TellsOf c files name told =
    TellsVerdict (opening_in c.journal) files name told

-- a checker has taken in no entry, and a world is at the start of its run, which has this bound
pub record AreAtStart (checker : Checker) (world : Situation) (bound : Bound) : Type 0 where
  pub ready : IsOpen checker
  pub none : checker_entries checker ≡ []
  pub at_start :
      world ≡ situation checker.journal.instance.tables checker.journal.initial.items
      checker.journal.initial.items
  pub bounded :
      bound ≡ pinned_bound_of checker.journal.instance.tables checker.journal.initial.items

-- the first ten lines of a report were read, or all if it has fewer, and their number is told; or the first one that is
-- over long is told
pub record ReadsHead (files : Reading) (old new : Standing) (head : List ℕ)
    (told : Result ℕ VerifyFault) : Type 0 where
  pub reads : Reads (files.held_after new.name) new
  pub is :
      IfSome (files.held old.name) (λ bytes. IfOk told (λ n. IsHead bytes new.place n head))
  pub long :
      IfSome (files.held old.name) (λ bytes. (n : ℕ) → told ≡ Err (why.Wrong n)
      → first_over_long bytes ≡ Some n)
  pub fault : told ≡ Err why.ReadFault → ReadFailed files old.name
  pub memory : told ≢ Err why.NoMemory
  pub few : IfOk told (λ n. n ≤ 10)
  pub called : new.name ≡ old.name
  pub leaves : LeavesFiles files

-- the lines after these were read: they are the entry lines of a legal journal, whose entries a checker has taken in;
-- or the first line is told that is the line of no entry that may follow
pub record ReadsEntries (files : Reading) (name : List ℕ) (lines : ℕ) (before after : Checker)
    (told : Result (Unit {0}) VerifyFault) : Type 0 where
  pub right :
      IfSome (files.held name) (λ bytes. OnOk told
      (AreAllRight (opening_in before.journal) bytes (checker_entries after)))
  pub all :
      IfSome (files.held name) (λ bytes. OnOk told
      (length (lines_of bytes) ≡ lines + length (checker_entries after)))
  pub wrong :
      IfSome (files.held name) (λ bytes. (n : ℕ) → told ≡ Err (why.Wrong n) → (h : List Entry) ×
      IsWrongNext (opening_in before.journal) bytes h n)
  pub fault : told ≡ Err why.ReadFault → ReadFailed files name
  pub memory : told ≢ Err why.NoMemory
  pub same : IsSameRun before after
  pub leaves : LeavesFiles files

-- the bytes up to the place of a reader are the head and the lines of the entries of a checker, in the run of another
abbrev pub AreReadBy : Checker → List ℕ → ℕ → Checker → Type 0
AreReadBy before bytes place after =
    AreRead (opening_in before.journal) bytes
    place (checker_entries after)

-- the next entry line was read, if there is one, and its entry was taken in; or the line is that of no entry that may
-- follow
pub record ReadsEntry (files : Reading) (old new : Standing) (before after : Checker)
    (told : Result Bool VerifyFault) : Type 0 where
  pub reads : Reads (files.held_after new.name) new
  pub more : told ≡ Ok true → HasTakenSomeEntry before after
  pub read :
      IfSome (files.held old.name) (λ bytes. told ≡ Ok true
      → AreReadBy before bytes new.place after)
  pub none : told ≡ Ok false → after ≡ before
  pub end :
      IfSome (files.held old.name) (λ bytes. told ≡ Ok false
      → length (lines_of bytes) ≡ 10 + length (checker_entries before))
  pub wrong :
      IfSome (files.held old.name) (λ bytes. (n : ℕ) → told ≡ Err (why.Wrong n)
      → IsWrongNext (opening_in before.journal) bytes (checker_entries before) n)
  pub fault : told ≡ Err why.ReadFault → ReadFailed files old.name
  pub memory : told ≢ Err why.NoMemory
  pub same : IsSameRun before after
  pub called : new.name ≡ old.name
  pub leaves : LeavesFiles files
