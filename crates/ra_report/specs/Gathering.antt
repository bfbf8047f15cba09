-- A text that is gathered on its way to a sink, and what of it was put.
use Rattle.std.specs.Prelude.{◌≡◌, ℕ, ◌≤◌, Bool, true, false, List, ◌++◌, Option}
use Rattle.std.specs.Io.KnownBytes.{Appends}
use Rattle.ra_report.specs.declared.gathered.Gathered.{Gathered}
use Rattle.ra_report.specs.Pieces.{BreaksOff}

-- what waited and the text after it were put, except for what waits now; or a put failed, and the sink took a front of
-- them; after a put has failed, the sink takes nothing more
unfoldable pub MovesText : Bool → Bool → Option (List ℕ) → Option (List ℕ) → ℕ → ℕ → List ℕ → List ℕ
    → List ℕ → Type 0
MovesText false false old new before after waited waits text =
    (put : List ℕ) × Appends old new put × (put ++ waits ≡ waited ++ text)
MovesText false true old new before after waited waits text =
    BreaksOff old new before after (waited ++ text)
MovesText true false old new before after waited waits text = ⊥
MovesText true true old new before after waited waits text = (new ≡ old) × (after ≡ before)

-- the text was added: it waits, or it was put, or a put failed. The sink is the same one, and its count of faults
-- didn't fall
abbrev pub AddsText : {O : Type 0} → (O → Option (List ℕ)) → (O → ℕ) → Gathered O → Gathered O → List ℕ
    → Type 0
AddsText taken faults old new text =
    (new.to.ghost_name ≡ old.to.ghost_name)
    × (faults old.to.now ≤ faults new.to.now)
    × MovesText old.failed new.failed (taken old.to.now) (taken new.to.now) (faults old.to.now)
    (faults new.to.now) old.waiting new.waiting text
