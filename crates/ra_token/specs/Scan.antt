-- What is known on the way to the next token.
use Rattle.std.specs.Prelude.{◌≡◌, ℕ, zero, suc, ◌*◌, ◌+◌, ◌-◌, ◌<◌, ◌≤◌, true, List, length, take, slice_get, slice_index, Option, Some, None, IfSome, Err}
use Rattle.ra_base.specs.Listed.{Listed}
use Rattle.ra_base.specs.Searches.{first}
use Rattle.ra_token.specs.declared.answers.Token.{Token}
use Rattle.ra_token.specs.declared.answers.TokenFault.{TokenFault}
use Rattle.ra_token.specs.declared.buffer.Buffer.{Buffer}
use Rattle.ra_token.specs.Runs.{digit_at, worth, run_start}
use Rattle.ra_token.specs.Faults.{fault_at}
use Rattle.ra_token.specs.TokenList.{tokens, tokens_before, IsAnswer}
use Rattle.ra_token.specs.Reads.{IsBetween, IsPiece}
use Rattle.ra_token.specs.Values.{AddsValues}

-- if the bytes of the file are told, the buffer has some of them
abbrev pub Shows : Option (List ℕ) → Buffer → Type 0
Shows told w = IfSome told (λ bytes. IsPiece bytes w.start (take w.filled w.bytes.items))

-- the buffer has the byte at a place ready
pub record Covers (w : Buffer) (place : ℕ) : Type 0 where
  pub low : w.start ≤ place
  pub high : place < w.start + w.filled

-- the byte that the buffer has ready for a place
abbrev pub ready_byte : Buffer → ℕ → ℕ
ready_byte w place = slice_index w.bytes.items (place - w.start)

-- a place that is reached from an earlier one, with no end of a token between them
pub record IsReached (bytes : List ℕ) (from place : ℕ) : Type 0 where
  pub between : IsBetween bytes place
  pub given : tokens_before bytes place ≡ tokens_before bytes from

-- a token begins at a place that was reached
pub record Begins (bytes : List ℕ) (from place : ℕ) : Type 0 where
  pub reached : IsReached bytes from place
  pub digit : digit_at bytes place ≡ true

-- the run that begins at `start` was looked at up to `place`, and is worth `value` so far
pub record InRun (bytes : List ℕ) (start place value : ℕ) : Type 0 where
  pub within : place ≤ length bytes
  pub worth_is : worth bytes place ≡ value
  pub start_is : run_start bytes place ≡ start
  pub sound : first place (fault_at bytes) ≡ None
  pub given : tokens_before bytes (place - 1) ≡ tokens_before bytes start

-- a token of a value at a place
abbrev pub token_of : ℕ → ℕ → Token
token_of value at = record { value = value; at = at }

-- the run from one place to another is the next token, and has this value
pub record IsTaken (bytes : List ℕ) (start place value : ℕ) : Type 0 where
  pub token : slice_get (tokens bytes) (tokens_before bytes start) ≡ Some (token_of value start)
  pub between : IsBetween bytes place
  pub given : tokens_before bytes place ≡ tokens_before bytes start + 1

-- the run from one place to another is the next token after `from`, and has this value
pub record IsNext (bytes : List ℕ) (from start place value : ℕ) : Type 0 where
  pub token : slice_get (tokens bytes) (tokens_before bytes from) ≡ Some (token_of value start)
  pub between : IsBetween bytes place
  pub given : tokens_before bytes place ≡ tokens_before bytes from + 1

-- what digits one after another are worth
unfoldable pub digits_worth : List ℕ → ℕ → ℕ → ℕ
digits_worth bytes from zero = 0
digits_worth bytes from (suc k) =
    digits_worth bytes from k * 10 + (slice_index bytes (from + k) - 48)

-- runs of a piece of bytes, from one index on up to another and no more than a limit, were taken: their values were
-- added at the end of a list
pub record TakesRuns (piece : List ℕ) (from end limit : ℕ) (old new : Listed ℕ) : Type 0 where
  pub low : from ≤ end
  pub within : end ≤ length piece
  pub grows : length old.items ≤ length new.items
  pub most : length new.items ≤ length old.items + limit
  pub room : new.room ≡ old.room
  pub adds : (bytes : List ℕ) (start : ℕ) → start + length piece ≤ 536870912
      → IsPiece bytes start piece → IsBetween bytes (start + from)
      → AddsValues bytes (start + from) (start + end) (length new.items - length old.items)
      old.items new.items

-- what holds of all bytes that contain this piece, if a run is worth `carried` at an index of it
abbrev pub RunsOn : List ℕ → ℕ → ℕ → (List ℕ → ℕ → ℕ → Type 0) → Type 0
RunsOn piece from carried P =
    (bytes : List ℕ) (start first : ℕ) → start + length piece ≤ 536870912 → IsPiece bytes start piece
    → InRun bytes first (start + from) carried → P bytes start first

-- the fault comes next
abbrev pub FaultsAt : List ℕ → ℕ → TokenFault → Type 0
FaultsAt bytes place fault = IsAnswer bytes (tokens_before bytes place) (Err fault)
