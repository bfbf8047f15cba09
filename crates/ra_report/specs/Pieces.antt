-- A text in pieces, and what a sink has taken of it.
use Rattle.std.specs.Prelude.{ℕ, ◌⊎◌, List, [], ◌∷◌, ◌++◌, Option}
use Rattle.std.specs.Io.KnownBytes.{Appends}
use Rattle.ra_io.specs.Faults.{Rose}
use Rattle.ra_io.specs.Pieces.{AppendsPart}
use Rattle.ra_report.specs.declared.pieces.Piece.{Piece}
use Rattle.ra_report.specs.declared.pieces.Piece.TheVariants.{Text, Number, Marked}
use Rattle.ra_report.specs.Texts.{number_text}

-- texts one after another
abbrev pub joined : List (List ℕ) → List ℕ
joined [] = []
joined (text ∷ texts) = text ++ joined texts

-- the bytes of a piece: a text as it is, a number in decimal, and such a number with a byte before it
abbrev pub piece_bytes : Piece → List ℕ
piece_bytes (Text text) = text.now
piece_bytes (Number n) = number_text n
piece_bytes (Marked mark n) = mark ∷ number_text n

-- the bytes of pieces, one after another
abbrev pub bytes_of : List Piece → List ℕ
bytes_of [] = []
bytes_of (piece ∷ pieces) = piece_bytes piece ++ bytes_of pieces

-- the sink took a front of the text, and a fault was counted
abbrev pub BreaksOff : Option (List ℕ) → Option (List ℕ) → ℕ → ℕ → List ℕ → Type 0
BreaksOff old new before after text = AppendsPart old new text × Rose before after

-- the sink took the whole text, or a front of it if a fault was counted
abbrev pub Puts : Option (List ℕ) → Option (List ℕ) → ℕ → ℕ → List ℕ → Type 0
Puts old new before after text = Appends old new text ⊎ BreaksOff old new before after text
