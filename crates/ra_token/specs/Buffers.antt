-- What a buffer of a file holds ready.
use Rattle.std.specs.Prelude.{◌≡◌, ℕ, ◌+◌, ◌-◌, ◌<◌, ◌≤◌, Bool, true, false, List, [], ◌∷◌, ◌++◌, length, take, drop, Result, Ok, IfSome, IfOk, OnErr}
use Rattle.ra_base.specs.declared.lists.Fixed.{Fixed}
use Rattle.ra_io.specs.Outside.{Reading, ReadFailed}
use Rattle.ra_token.specs.declared.line_buffer.Buffer.{Buffer}
use Rattle.ra_token.specs.declared.line_answers.Next.{Next}
use Rattle.ra_token.specs.declared.line_answers.Next.TheVariants.{Long}
use Rattle.ra_token.specs.declared.line_answers.ReadFault.{ReadFault}
use Rattle.ra_token.specs.Lines.{HasNoEnd}
use Rattle.ra_token.specs.Reading.{IsNextLine}

-- the bytes that were fetched and not given
abbrev pub ready_of : Buffer → List ℕ
ready_of w = take (w.filled - w.at) (drop w.at w.bytes.items)

-- bytes with one LF, at their end
pub record IsEnded (bytes : List ℕ) : Type 0 where
  pub body : List ℕ
  pub unended : HasNoEnd body
  pub split : bytes ≡ body ++ 10 ∷ []

-- of the bytes from a place on, some were given at the end of a list, and others are ready
pub record Gave (bytes : List ℕ) (place given : ℕ) (before line ready : List ℕ) : Type 0 where
  pub text : line ≡ before ++ take given (drop place bytes)
  pub front : take (length ready) (drop (place + given) bytes) ≡ ready

-- how many bytes were added to a list
abbrev pub bytes_added : Fixed ℕ → Fixed ℕ → ℕ
bytes_added before after = length after.items - length before.items

-- the next line from a place on was added to a list as far as there was room, and the answer says what it is
pub record GivesLine (files : Reading) (name : List ℕ) (place most_before : ℕ) (before after : Fixed ℕ)
    (ready : List ℕ) (answer : Result Next ReadFault) : Type 0 where
  pub gave :
      IfSome (files.held name) (λ bytes.
      Gave bytes place (bytes_added before after) before.items after.items ready)
  pub next :
      IfSome (files.held name) (λ bytes.
      IfOk answer (IsNextLine most_before (drop place bytes) (drop (place + bytes_added before after) bytes)))
  pub grows : length before.items ≤ length after.items
  pub most : length after.items ≤ length before.items + most_before + 1
  pub long : answer ≡ Ok Long → length after.items ≡ length before.items + most_before + 1
  pub room : after.room ≡ before.room
  pub fault : OnErr answer (ReadFailed files name)
  pub kept : (other : List ℕ) → files.held_after other ≡ files.held other
  pub never_fall : (other : List ℕ) → files.before other ≤ files.after other

-- bytes from a place on are ready, or the file has ended there
pub record MakesReady (files : Reading) (name : List ℕ) (place : ℕ) (old new : List ℕ)
    (answer : Result Bool ReadFault) : Type 0 where
  pub fetched :
      IfSome (files.held name) (λ bytes. take (length old) (drop place bytes) ≡ old
      → take (length new) (drop place bytes) ≡ new)
  pub more : answer ≡ Ok true → 0 < length new
  pub ended : answer ≡ Ok false → IfSome (files.held name) (λ bytes. drop place bytes ≡ [])
  pub fault : OnErr answer (ReadFailed files name)
  pub kept : (other : List ℕ) → files.held_after other ≡ files.held other
  pub never_fall : (other : List ℕ) → files.before other ≤ files.after other

-- the front of the ready bytes was added to a list, up to and with the first LF, or all of them, but no more than there
-- was room for
pub record GivesFront (most_bytes : ℕ) (old new : List ℕ) (before after : Fixed ℕ) (is_ended : Bool) : Type
    0 where
  pub given : after.items ≡ before.items ++ take (bytes_added before after) old
  pub left : new ≡ drop (bytes_added before after) old
  pub ended : is_ended ≡ true → IsEnded (take (bytes_added before after) old)
  pub unended : is_ended ≡ false → HasNoEnd (take (bytes_added before after) old)
  pub most : length after.items ≤ length before.items + most_bytes
  pub some : 0 < most_bytes → 0 < length old → length before.items < length after.items
  pub grows : length before.items ≤ length after.items
  pub within : length after.items ≤ length before.items + length old
  pub room : after.room ≡ before.room
