-- The lines of tries, and the output of a repair.
use Rattle.std.proofs.Common.{arith, ◌≡◌, ℕ, ◌+◌, List, ◌++◌, length, Option, refl, add-one}
use Rattle.ra_base.specs.declared.causes.Cause.{Cause}
use Rattle.ra_model.specs.Broken.{first_broken}
use Rattle.ra_repair.specs.declared.repair.Repair.{Repair}
use Rattle.ra_repair.specs.declared.tries.Try.{Try}
use Rattle.ra_repair.specs.Repairs.{try_in}
use Rattle.ra_report.specs.declared.gathered.Gathered.{Gathered}
use Rattle.ra_report.specs.Gathering.{AddsText}
use Rattle.ra_report.specs.JournalTexts.{assignment_line}
use Rattle.ra_report.specs.RepairTexts.{state_line, try_line, tries_text, repair_lines, text_of_repair}
use Rattle.ra_report.proofs.GatheringLemmas.{adds_more}

-- one more line
pub adds_try : {O : Type 0} (taken : O → Option (List ℕ)) (faults : O → ℕ) (tries : List Try) (n : ℕ)
    (a b c : Gathered O)
    → AddsText taken faults a b (tries_text tries n) → AddsText taken faults b c (try_line (try_in tries n)) →
    AddsText taken faults a c (tries_text tries (n + 1))
unfolding tries_text
adds_try taken faults tries n a b c first next = grind (arith, add-one, adds_more)

-- the lines with the first broken constraint are the output
pub repair_told : (r : Repair) (broken : Option Cause) →
    broken ≡ first_broken r.inst.now.tables r.start.now.items r.kept.assignment.items →
    text_of_repair r ≡ repair_lines broken r.kept.assignment.items r.tries.items
unfolding text_of_repair
repair_told r broken is = rw is refl

-- the line of the state, that of the list and those of the tries are the output
pub adds_repair : {O : Type 0} (taken : O → Option (List ℕ)) (faults : O → ℕ) (r : Repair) (broken : Option Cause)
    (a b c d : Gathered O)
    → broken ≡ first_broken r.inst.now.tables r.start.now.items r.kept.assignment.items →
    AddsText taken faults a b (state_line broken)
    → AddsText taken faults b c (assignment_line r.kept.assignment.items) →
    AddsText taken faults c d (tries_text r.tries.items (length r.tries.items)) →
    AddsText taken faults a d (text_of_repair r)
unfolding repair_lines
adds_repair taken faults r broken a b c d is state listed tries =
    let last = assignment_line r.kept.assignment.items in
    let lines = tries_text r.tries.items (length r.tries.items) in
    rw (repair_told r broken is)
    (adds_more taken faults a b d _ (last ++ lines) state
    (adds_more taken faults b c d last lines listed tries))
