-- What the text of an instance means. Each law is proved by a function of `model_text`.
use Rattle.std.specs.Prelude.{◌≡◌, ◌↔◌, None}
use Rattle.ra_model.specs.declared.raw.Tables.{Tables}
use Rattle.ra_model.specs.Limits.{WellFormed, Small}
use Rattle.ra_model_read.specs.ModelText.{IsModel, model_refusal}
use Rattle.ra_model_text.specs.ModelTexts.{IsOpenToAll, model_text}

-- the text means the instance with no machine closed, and no other
abbrev pub ModelTextsAreModels : Type 0
ModelTextsAreModels =
    (i opened : Tables) → WellFormed i → Small i → IsModel (model_text i) opened ↔ IsOpenToAll i opened

-- nothing is wrong with the text
abbrev pub ModelTextsAreAccepted : Type 0
ModelTextsAreAccepted = (i : Tables) → WellFormed i → Small i → model_refusal (model_text i) ≡ None
