-- What a model file means if its bytes are told, and the law of its text, which states it without formats.
use Rattle.std.specs.Prelude.{◌≡◌, ◌↔◌, ℕ, List, Option, None, IfSome}
use Rattle.ra_model.specs.declared.raw.Tables.{Tables}
use Rattle.ra_model.specs.Limits.{WellFormed}
use Rattle.ra_model_read.specs.FieldOrder.{IsTextOf}
use Rattle.ra_model_read.specs.ModelText.{IsModel}

-- the bytes, if they are told, mean the instance of these tables
abbrev pub IsToldModel : Option (List ℕ) → Tables → Type 0
IsToldModel told i = IfSome told (λ bytes. IsModel bytes i)

-- the bytes, if they are told, are the text of the instance of these tables
abbrev pub IsToldText : Option (List ℕ) → Tables → Type 0
IsToldText told i = IfSome told (λ bytes. IsTextOf bytes i)

-- the bytes mean an instance exactly if it is within the limits, closes no machine, and the bytes are its text
abbrev pub ModelIsItsNumbers : List ℕ → Type 0
ModelIsItsNumbers bytes =
    (i : Tables) → IsModel bytes i ↔ (WellFormed i × (i.closed ≡ None) × IsTextOf bytes i)
