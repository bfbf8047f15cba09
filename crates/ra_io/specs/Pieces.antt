-- What is held, what of it a fetch gives, and what a sink takes of a text.
--
-- A function over `F: Files` speaks of what is held only if it is told, and leaves it as it was:
--   ensures done { OnOk result (IfSome (F.held files.old name.now) (λ bytes. ..)) }
--   ensures kept { (other : List ℕ) → F.held files.new other ≡ F.held files.old other }
-- A function over `O: Sink` says which text was taken by `Appends`, that nothing was taken by `Keeps`, both
-- of Rattle.std.specs.Io.KnownBytes, and that a prefix of a text was taken by `AppendsPart`:
--   ensures whole { OnOk result (Appends (O.taken out.old) (O.taken out.new) text) }
--   ensures part { OnErr result (AppendsPart (O.taken out.old) (O.taken out.new) text) }
use Rattle.std.specs.Prelude.{◌≡◌, ◌≢◌, ℕ, ◌-◌, ◌≤◌, Option, Some, List, length, take, min, Bool, nat_eq}
use Rattle.std.specs.List.{list_any}
use Rattle.std.specs.Io.KnownBytes.{Appends}

-- the bytes of a name are set, and those of all others stay
pub record Sets (old new : List ℕ → Option (List ℕ)) (name bytes : List ℕ) : Type 0 where
  pub named : new name ≡ Some bytes
  pub others : (other : List ℕ) → other ≢ name → new other ≡ old other

-- how many bytes a fetch gives: no more than there is room for, than one fetch may give, and than the file has left
abbrev pub piece_len : ℕ → ℕ → ℕ → List ℕ → ℕ
piece_len room each at bytes = min (min room each) (length bytes - at)

-- told bytes grew by a prefix of the text
abbrev pub AppendsPart : Option (List ℕ) → Option (List ℕ) → List ℕ → Type 0
AppendsPart old new text = (n : ℕ) × (n ≤ length text) × Appends old new (take n text)

-- whether a number is listed
abbrev pub is_listed : List ℕ → ℕ → Bool
is_listed numbers n = list_any (λ y. nat_eq y n) numbers
