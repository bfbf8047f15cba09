-- A text that is put piece by piece.
use Rattle.std.proofs.Common.{ℕ, ◌+◌, ◌≤◌, List, Option, length, take, drop, subst, sym}
use Rattle.std.proofs.Math.Seq.{take-add}
use Rattle.std.specs.Io.KnownBytes.{Appends, Keeps}
use Rattle.std.proofs.KnownBytes.{Appends-trans, Appends-kept}
use Rattle.ra_io.specs.Pieces.{AppendsPart}

-- the text was put up to a place, and no fault was forgotten
pub record HasPut (old now : Option (List ℕ)) (faults_before faults_now : ℕ) (text : List ℕ) (at : ℕ) : Type 0 where
  pub within : at ≤ length text
  pub grown : Appends old now (take at text)
  pub never_fell : faults_before ≤ faults_now

-- the next piece of a text goes after what was taken of it
pub Appends-piece : (old mid new : Option (List ℕ)) (text : List ℕ) (at n : ℕ)
    → Appends old mid (take at text) → Appends mid new (take n (drop at text)) → Appends old new (take (at + n) text)
Appends-piece old mid new text at n first next =
    subst (Appends old new) (sym (take-add at n text)) (Appends-trans old mid new _ _ first next)

-- if nothing more is taken, what was put is a prefix
pub Appends-stopped : (old mid new : Option (List ℕ)) (text : List ℕ) (at : ℕ)
    → at ≤ length text → Appends old mid (take at text) → Keeps mid new → AppendsPart old new text
Appends-stopped old mid new text at within first kept = (at, within, Appends-kept old mid new _ first kept)
