-- The output of a repair: whether its last assignment is feasible or what is broken first, this assignment, and a line
-- for each try.
use Rattle.std.specs.Prelude.{ℕ, zero, suc, List, [], ◌∷◌, ◌++◌, length, codes, Bool, true, false, Option, Some, None}
use Rattle.ra_base.specs.declared.causes.Cause.{Cause}
use Rattle.ra_base.specs.declared.ids.Machine.{Machine}
use Rattle.ra_draws.specs.declared.sources.Lot.{Lot}
use Rattle.ra_model.specs.declared.raw.Tables.{Tables}
use Rattle.ra_model.specs.Broken.{first_broken}
use Rattle.ra_repair.specs.declared.repair.Repair.{Repair}
use Rattle.ra_repair.specs.declared.tries.Try.{Try}
use Rattle.ra_repair.specs.Repairs.{try_in, tables_repaired, start_repaired, assignment_repaired, tries_made}
use Rattle.ra_repair.specs.Runs.{repair_run}
use Rattle.ra_report.specs.Pieces.{joined}
use Rattle.ra_report.specs.Texts.{space, line_end, number_text, cause_text}
use Rattle.ra_report.specs.JournalTexts.{kind_text, steps_text, assignment_line}

-- the line `feasible`, or `broken` and the cause
unfoldable pub state_text : Option Cause → List ℕ
state_text None = codes "feasible"
state_text (Some cause) = codes "broken " ++ cause_text cause

unfoldable pub state_line : Option Cause → List ℕ
state_line broken = state_text broken ++ line_end

-- whether a move was taken
unfoldable pub taken_text : Bool → List ℕ
taken_text true = codes "taken"
taken_text false = codes "left"

-- the words of a try before its steps, and those after them
unfoldable pub try_front : Try → List ℕ
try_front t = joined (number_text t.k ∷ space ∷ kind_text t.mv.kind ∷ space ∷ [])

unfoldable pub try_back : Try → List ℕ
try_back t =
    joined
    (taken_text t.taken ∷ space ∷ number_text t.before ∷ space ∷ number_text t.after ∷ line_end
    ∷ [])

-- the line of a try: its number, the kind of its move, the steps as in an entry, whether it was taken, and the penalty
-- before and after it
unfoldable pub try_line : Try → List ℕ
try_line t = try_front t ++ (steps_text t.mv.steps ++ try_back t)

-- the lines of the first n tries, in order
unfoldable pub tries_text : List Try → ℕ → List ℕ
tries_text tries zero = []
tries_text tries (suc n) = tries_text tries n ++ try_line (try_in tries n)

-- all lines
unfoldable pub repair_lines : Option Cause → List Machine → List Try → List ℕ
repair_lines broken a tries =
    state_line broken ++ (assignment_line a ++ tries_text tries (length tries))

-- the first broken constraint of the last assignment of a repair, if one is broken
abbrev pub broken_after : Repair → Option Cause
broken_after r =
    first_broken (tables_repaired r) (start_repaired r) (assignment_repaired r)

-- the output of a repair
unfoldable pub text_of_repair : Repair → List ℕ
text_of_repair r =
    repair_lines (first_broken (tables_repaired r) (start_repaired r) (assignment_repaired r))
    (assignment_repaired r) (tries_made r)

-- the output of the run of a lot from a0
unfoldable pub repair_text : Tables → List Machine → Lot → List ℕ
repair_text i a0 lot =
    let run = repair_run i a0 lot in
    repair_lines (first_broken i a0 run.assignment) run.assignment run.tries
