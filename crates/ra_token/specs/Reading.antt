-- A reader of lines, and what comes next of the bytes that it has not given.
use Rattle.std.specs.Prelude.{◌≡◌, ℕ, ◌+◌, ◌-◌, ◌≤◌, true, false, List, [], ◌∷◌, ◌++◌, length, take, drop, Option, Result, Ok, IfSome, IfOk, OnErr}
use Rattle.ra_base.specs.declared.lists.Fixed.{Fixed}
use Rattle.ra_io.specs.Outside.{Reading, ReadFailed}
use Rattle.ra_token.specs.declared.line_answers.Next.{Next}
use Rattle.ra_token.specs.declared.line_answers.Next.TheVariants.{Line, Last, Long, End}
use Rattle.ra_token.specs.declared.line_answers.ReadFault.{ReadFault}
use Rattle.ra_token.specs.Lines.{lines_of, ends_line, length_before_end, IsOverLong}
use Rattle.ra_token.specs.LineStanding.{Standing}

-- the bytes from the reader's place on begin with those that it holds ready
pub record StandsIn (bytes : List ℕ) (reader : Standing) : Type 0 where
  pub front : take (length reader.ready) (drop reader.place bytes) ≡ reader.ready

-- if the bytes of the file are told, the reader is in them
abbrev pub Reads : Option (List ℕ) → Standing → Type 0
Reads told reader = IfSome told (λ bytes. StandsIn bytes reader)

-- the bytes begin with a line that ends with LF and is no longer than the room, and other bytes are left after it
pub record BeginsWithLine (room : ℕ) (bytes after : List ℕ) : Type 0 where
  pub line : List ℕ
  pub split : bytes ≡ line ++ after
  pub lines : lines_of bytes ≡ line ∷ lines_of after
  pub ended : ends_line line ≡ true
  pub short : length_before_end line ≤ room

-- the bytes are one line without LF that is no longer than the room, and nothing is left after it
pub record IsLastLine (room : ℕ) (bytes after : List ℕ) : Type 0 where
  pub lines : lines_of bytes ≡ bytes ∷ []
  pub unended : ends_line bytes ≡ false
  pub short : length_before_end bytes ≤ room
  pub none_left : after ≡ []

-- the first line of the bytes is longer than the room
pub record BeginsOverLong (room : ℕ) (bytes : List ℕ) : Type 0 where
  pub line : List ℕ
  pub others : List (List ℕ)
  pub lines : lines_of bytes ≡ line ∷ others
  pub long : IsOverLong room line

-- what the next line of the bytes is, and what is left after it
abbrev pub IsNextLine : ℕ → List ℕ → List ℕ → Next → Type 0
IsNextLine room bytes after Line = BeginsWithLine room bytes after
IsNextLine room bytes after Last = IsLastLine room bytes after
IsNextLine room bytes after Long = BeginsOverLong room bytes
IsNextLine room bytes after End = (bytes ≡ [])

-- the next line was asked for, with room for a number of bytes before its end: it was added to a list as far as there
-- was room, and the answer says what it is
pub record TakesLine (files : Reading) (most_before : ℕ) (old new : Standing) (before after : Fixed ℕ)
    (answer : Result Next ReadFault) : Type 0 where
  pub reads : Reads (files.held_after new.name) new
  -- if the bytes are told, those from the old place to the new one were given, whatever the answer is
  pub given :
      IfSome (files.held old.name) (λ bytes.
      after.items ≡ before.items ++ take (new.place - old.place) (drop old.place bytes))
  pub next :
      IfSome (files.held old.name) (λ bytes.
      IfOk answer (IsNextLine most_before (drop old.place bytes) (drop new.place bytes)))
  pub number : length after.items + old.place ≡ length before.items + new.place
  pub goes_on : old.place ≤ new.place
  pub most : new.place ≤ old.place + most_before + 1
  pub long : answer ≡ Ok Long → new.place ≡ old.place + most_before + 1
  pub room : after.room ≡ before.room
  -- a failed fetch is counted
  pub fault : OnErr answer (ReadFailed files old.name)
  pub name : new.name ≡ old.name
  pub kept : (other : List ℕ) → files.held_after other ≡ files.held other
  pub never_fall : (other : List ℕ) → files.before other ≤ files.after other
