-- A line that is written from its end to its front.
use Rattle.std.specs.Prelude.{◌≡◌, ℕ, ◌+◌, ◌≤◌, List, ◌++◌, length}
use Rattle.ra_report.specs.declared.line.TheConstants.{LINE_ROOM}

-- this number of bytes more fit into the line
abbrev pub HasRoomForBytes : List ℕ → ℕ → Type 0
HasRoomForBytes line more = more + length line ≤ LINE_ROOM

-- a text of at most this number of bytes was written in front of what was there
pub record Prepends (old new text : List ℕ) (most : ℕ) : Type 0 where
  pub line : new ≡ text ++ old
  pub short : length new ≤ most + length old
