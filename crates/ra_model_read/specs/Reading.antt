-- A format that is read from a file: what was read and what is left, or the refusal.
use Rattle.std.specs.Prelude.{◌≡◌, ℕ, Bool, true, false, IsTrue, List, drop, Option, option_map}
use Rattle.ra_io.specs.declared.outside.Files as files
use Rattle.ra_io.specs.Faults.{Rose}
use Rattle.ra_token.specs.Faults.{first_fault}
use Rattle.ra_token.specs.Moments.{Here, here, Goes}
use Rattle.ra_token.specs.Standing.{Standing}
use Rattle.ra_token.specs.TokenList.{tokens, tokens_before}
use Rattle.ra_model_read.specs.declared.faults.ModelFault.{ModelFault}
use Rattle.ra_model_read.specs.declared.faults.ModelFault.TheVariants.{ReadFault, BadByte, TooLarge, TooLong, Missing}
use Rattle.ra_model_read.specs.declared.faults.ModelFault.TheVariants.{Range, Flag, Extra, NoMemory}
use Rattle.ra_model_read.specs.Formats.{Left, Read, Refused, Format}

-- the files that a call borrows and a reader, at one moment
abbrev pub seen : {F : Type 0} → files.Ghosts F → F → Standing → Here
seen told now tokens = here (told.held now) (told.faults now) tokens

-- what is left of bytes after a place
unfoldable pub left_from : ℕ → List ℕ → Left
left_from place bytes =
    record { tokens = drop (tokens_before bytes place) (tokens bytes); fault = first_fault bytes }

-- what is left, if the bytes are told
unfoldable pub left_of : Here → Option Left
left_of a = option_map (left_from a.tokens.place) (a.held a.tokens.name)

-- the format gives this value, and the reader has left what the format leaves
pub record Gives {X : Type 0} (f : Format X) (a b : Here) (x : X) : Type 0 where
  pub goes : Goes a b
  pub value : option_map f (left_of a) ≡ option_map (Read x) (left_of b)

-- a refusal because of the bytes, and not because of a failure to read them
unfoldable pub is_by_content : ModelFault → Bool
is_by_content ReadFault = false
is_by_content (BadByte at byte) = true
is_by_content (TooLarge at) = true
is_by_content TooLong = true
is_by_content (Missing what item) = true
is_by_content (Range what at value least most) = true
is_by_content (Flag at value) = true
is_by_content (Extra at) = true
is_by_content NoMemory = false

-- the format refuses what is left with this fault, or a failed fetch was counted, or the system refused memory
pub record FormatRefuses {X : Type 0} (f : Format X) (a b : Here) (fault : ModelFault) : Type 0 where
  pub goes : Goes a b
  pub rose : fault ≡ ReadFault → Rose (a.faults a.tokens.name) (b.faults a.tokens.name)
  pub told : IsTrue (is_by_content fault)
      → option_map f (left_of a) ≡ option_map (λ _. Refused fault) (left_of a)
