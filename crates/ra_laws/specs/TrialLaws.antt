-- What the two texts of a trial mean, and that its start is feasible, for all words g. Each is proved by a function of
-- `trial`.
use Rattle.std.specs.Prelude.{◌≡◌, ◌↔◌, ℕ, List, None}
use Rattle.ra_base.specs.declared.ids.Machine.{Machine}
use Rattle.ra_model.specs.declared.raw.Tables.{Tables}
use Rattle.ra_model.specs.Assignments.{IsAssignment}
use Rattle.ra_model.specs.Feasible.{Feasible}
use Rattle.ra_model.specs.Limits.{WellFormed}
use Rattle.ra_model_read.specs.ModelText.{IsModel, model_refusal}
use Rattle.ra_assign.specs.Lists.{IsAssignmentOf}
use Rattle.ra_trial.specs.Trials.{text_over, start_text}
use Rattle.ra_trial.specs.InstanceNumbers.{HasNumbers}
use Rattle.ra_trial.specs.Instances.{IsTrial, start_list}

-- the text of the model means the trial's instance and no other
abbrev pub ModelTextsAreTrials : Type 0
ModelTextsAreTrials = (g : ℕ → ℕ) (i : Tables) → IsModel (text_over g) i ↔ IsTrial g i

-- nothing is wrong with the text of the model
abbrev pub ModelTextsAreAccepted : Type 0
ModelTextsAreAccepted = (g : ℕ → ℕ) → model_refusal (text_over g) ≡ None

-- the text of the start means the start and no other assignment
abbrev pub StartTextsAreStarts : Type 0
StartTextsAreStarts =
    (g : ℕ → ℕ) (i : Tables) (a : List Machine) → IsTrial g i
    → IsAssignmentOf start_text i a ↔ (a ≡ start_list)

-- the instance has the trial's numbers, by the names that an instance gives them
abbrev pub TrialsHaveNumbers : Type 0
TrialsHaveNumbers = (g : ℕ → ℕ) (i : Tables) → IsTrial g i → HasNumbers g i

-- the trial's instance is within the limits
abbrev pub TrialsAreWellFormed : Type 0
TrialsAreWellFormed = (g : ℕ → ℕ) (i : Tables) → IsTrial g i → WellFormed i

-- the start gives each of its processes one of its machines
abbrev pub StartsAreAssignments : Type 0
StartsAreAssignments = (g : ℕ → ℕ) (i : Tables) → IsTrial g i → IsAssignment i start_list

-- the start meets all constraints
abbrev pub StartsAreFeasible : Type 0
StartsAreFeasible = (g : ℕ → ℕ) (i : Tables) → IsTrial g i → Feasible i start_list start_list
