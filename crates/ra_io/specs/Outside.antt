-- Files and a sink, as a call finds them and as it leaves them.
--
-- In a clause `F.Files` is the record of what a bound `F: Files` tells, so that `reading F.Files files.old files.new`
-- is what a call does to the files that it borrows, and `writing O.Sink out.old out.new` is what a call does to a sink.
use Rattle.std.specs.Prelude.{◌≡◌, ℕ, ◌≤◌, List, Option}
use Rattle.std.specs.Io.KnownBytes.{Appends, Keeps}
use Rattle.ra_io.specs.declared.outside.Files as files
use Rattle.ra_io.specs.declared.outside.Sink as sink
use Rattle.ra_io.specs.Faults.{Rose}
use Rattle.ra_io.specs.Pieces.{AppendsPart}

-- what files hold, if it is told, and how often reading a name failed, before a call and after it
pub record Reading : Type 0 where
  pub held : List ℕ → Option (List ℕ)
  pub held_after : List ℕ → Option (List ℕ)
  pub before : List ℕ → ℕ
  pub after : List ℕ → ℕ

abbrev pub reading : {F : Type 0} → files.Ghosts F → F → F → Reading
reading told old new = record {
  held = told.held old;
  held_after = told.held new;
  before = told.faults old;
  after = told.faults new;
}

-- reading a name failed, which was counted
abbrev pub ReadFailed : Reading → List ℕ → Type 0
ReadFailed files name = Rose (files.before name) (files.after name)

-- what every call leaves of files: they hold all that they held, and no count fell
pub record LeavesFiles (files : Reading) : Type 0 where
  pub kept : (other : List ℕ) → files.held_after other ≡ files.held other
  pub never_fall : (other : List ℕ) → files.before other ≤ files.after other

-- what a sink has taken, if it is told, and how often taking failed, before a call and after it
pub record Writing : Type 0 where
  pub taken : Option (List ℕ)
  pub taken_after : Option (List ℕ)
  pub before : ℕ
  pub after : ℕ

abbrev pub writing : {O : Type 0} → sink.Ghosts O → O → O → Writing
writing told old new = record {
  taken = told.taken old;
  taken_after = told.taken new;
  before = told.faults old;
  after = told.faults new;
}

-- it took this text
abbrev pub Took : Writing → List ℕ → Type 0
Took out text = Appends out.taken out.taken_after text

-- it took a front of this text
abbrev pub TookPart : Writing → List ℕ → Type 0
TookPart out text = AppendsPart out.taken out.taken_after text

-- it took nothing
abbrev pub TookNothing : Writing → Type 0
TookNothing out = Keeps out.taken out.taken_after

-- taking failed, which was counted
abbrev pub WriteFailed : Writing → Type 0
WriteFailed out = Rose out.before out.after
