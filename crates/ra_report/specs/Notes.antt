-- What a note says.
use Rattle.std.specs.Prelude.{List, ℕ, [], ◌∷◌, ◌++◌, codes}
use Rattle.ra_report.specs.declared.notes.Note.{Note}
use Rattle.ra_report.specs.declared.notes.Note.TheVariants.{Nothing, Words, Number, Numbers, Field, Range, Cause}
use Rattle.ra_report.specs.Pieces.{joined}
use Rattle.ra_report.specs.Texts.{space, number_text, cause_text}

-- the text for a number that is not within its limits: some words, the name of its field, its place, the number, the
-- limits
abbrev pub range_text : List ℕ → List ℕ → ℕ → ℕ → ℕ → ℕ → List ℕ
range_text words field at value least most =
    joined
    (words ∷ field ∷ codes " at " ∷ number_text at ∷ codes ": " ∷ number_text value
    ∷ codes " not in " ∷ number_text least ∷ codes " to " ∷ number_text most ∷ [])

-- its words and numbers, one after another
unfoldable pub note_text : Note → List ℕ
note_text Nothing = []
note_text (Words words) = words.now
note_text (Number words n) = joined (words.now ∷ number_text n ∷ [])
note_text (Numbers words a between b) =
    joined (words.now ∷ number_text a ∷ between.now ∷ number_text b ∷ [])
note_text (Field words field n) = joined (words.now ∷ field.now ∷ space ∷ number_text n ∷ [])
note_text (Range words field at value least most) =
    range_text words.now field.now at value least most
note_text (Cause words cause) = words.now ++ cause_text cause
