-- What is refused of a list of machines or a file of edits, and what such a file is. Each law is proved by a function
-- of `reading`.
use Rattle.std.specs.Prelude.{◌≡◌, ◌↔◌, ℕ, List, None}
use Rattle.ra_model.specs.declared.raw.Tables.{Tables}
use Rattle.ra_assign.specs.Lists.{assign_refusal, IsAssignmentFile}
use Rattle.ra_assign.specs.ClosedLists.{closed_refusal, IsClosedFile}
use Rattle.ra_edit_read.specs.EditTexts.{edits_refusal, IsEditsFile}

-- nothing is refused exactly if the bytes are an assignment file
abbrev pub AssignmentFilesAreRead : Type 0
AssignmentFilesAreRead =
    (bytes : List ℕ) (i : Tables) → (assign_refusal bytes i ≡ None) ↔ IsAssignmentFile bytes i

-- nothing is refused exactly if the bytes are a closed list
abbrev pub ClosedFilesAreRead : Type 0
ClosedFilesAreRead =
    (bytes : List ℕ) (i : Tables) → (closed_refusal bytes i ≡ None) ↔ IsClosedFile bytes i

-- nothing is refused exactly if the bytes are a file of some number of edits
abbrev pub EditsFilesAreRead : Type 0
EditsFilesAreRead =
    (bytes : List ℕ) (i : Tables)
    → (edits_refusal bytes i ≡ None) ↔ ((count : ℕ) × IsEditsFile bytes i count)
