-- A reader that is at a place in the bytes of its file.
use Rattle.std.specs.Prelude.{◌≡◌, ℕ, ◌≤◌, false, List, length, take, drop, Option, None, IfSome}
use Rattle.ra_base.specs.Searches.{first}
use Rattle.ra_token.specs.Runs.{cuts_run}
use Rattle.ra_token.specs.Faults.{fault_at}
use Rattle.ra_token.specs.Standing.{Standing}

-- a place of the bytes, or their end, that cuts no run and has no fault before it
pub record IsBetween (bytes : List ℕ) (place : ℕ) : Type 0 where
  pub within : place ≤ length bytes
  pub whole : cuts_run bytes place ≡ false
  pub sound : first place (fault_at bytes) ≡ None

-- the piece is what the bytes have from a place on
pub record IsPiece (bytes : List ℕ) (start : ℕ) (piece : List ℕ) : Type 0 where
  pub same : take (length piece) (drop start bytes) ≡ piece

-- a reader is between tokens of these bytes, and what it holds ready comes from them
pub record StandsIn (bytes : List ℕ) (reader : Standing) : Type 0 where
  pub piece : IsPiece bytes reader.start reader.ready
  pub between : IsBetween bytes reader.place

-- if the bytes of the file are told, the reader is in them
abbrev pub Reads : Option (List ℕ) → Standing → Type 0
Reads told reader = IfSome told (λ bytes. StandsIn bytes reader)
