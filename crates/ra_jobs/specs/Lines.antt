-- The line of each refusal: that of its fault.
use Rattle.std.specs.Prelude.{ℕ, List}
use Rattle.std.specs.Borrow.{Bor}
use Rattle.ra_report.specs.declared.faults.Fault.{Fault}
use Rattle.ra_report.specs.declared.faults.Fault.TheVariants as fault
use Rattle.ra_report.specs.FaultTexts.{fault_text}
use Rattle.ra_jobs.specs.declared.refusals.File.TheVariants as file
use Rattle.ra_jobs.specs.declared.refusals.Refusal.{Refusal}
use Rattle.ra_jobs.specs.declared.refusals.Refusal.TheVariants.{Read, Model, Closed, Assign, Edits, Broken, Unrepaired, Wrong, Write, Memory}
use Rattle.ra_jobs.specs.Files.{Names, name_of, file_of}

-- a borrowed name; its owner doesn't matter for the line
abbrev pub lent : List ℕ → Bor (List ℕ)
lent name = record { ref_ptr = (0, 0); now = name }

-- the fault of a refusal, by the names of the job's files
unfoldable pub fault_of : Names → Refusal → Fault
fault_of names (Read f) = fault.Read (lent (name_of names f))
fault_of names (Model why) = fault.Model why
fault_of names (Closed why) = fault.Closed (lent (name_of names file.Closed)) why
fault_of names (Assign which why) = fault.Assign (lent (name_of names (file_of which))) why
fault_of names (Edits why) = fault.Edits (lent (name_of names file.Edits)) why
fault_of names (Broken which cause) = fault.Infeasible (lent (name_of names (file_of which))) cause
fault_of names (Wrong line) = fault.Wrong line
fault_of names (Unrepaired cause) = fault.Unrepaired (lent (name_of names file.Initial)) cause
fault_of names Write = fault.Write
fault_of names Memory = fault.Memory

unfoldable pub refusal_line : Names → Refusal → List ℕ
refusal_line names refusal = fault_text (fault_of names refusal)
