-- The status of each refusal, and its number.
use Rattle.std.specs.Prelude.{ℕ}
use Rattle.ra_jobs.specs.declared.refusals.Refusal.{Refusal}
use Rattle.ra_jobs.specs.declared.refusals.Refusal.TheVariants as refusal
use Rattle.ra_jobs.specs.declared.status.Status.{Status}
use Rattle.ra_jobs.specs.declared.status.Status.TheVariants.{Done, Usage, ReadFault, BadModel, BadAssignment, Infeasible, WriteFault, NoMemory, BadClosed, Wrong, Unrepaired, BadEdits}

unfoldable pub status_of : Refusal → Status
status_of (refusal.Read f) = ReadFault
status_of (refusal.Model fault) = BadModel
status_of (refusal.Closed fault) = BadClosed
status_of (refusal.Assign which fault) = BadAssignment
status_of (refusal.Edits fault) = BadEdits
status_of (refusal.Broken which cause) = Infeasible
status_of (refusal.Wrong line) = Wrong
status_of (refusal.Unrepaired cause) = Unrepaired
status_of refusal.Write = WriteFault
status_of refusal.Memory = NoMemory

-- the exit status of the program
unfoldable pub status_number : Status → ℕ
status_number Done = 0
status_number Usage = 2
status_number ReadFault = 3
status_number BadModel = 4
status_number BadAssignment = 5
status_number Infeasible = 6
status_number WriteFault = 7
status_number NoMemory = 8
status_number BadClosed = 10
status_number Wrong = 9
status_number Unrepaired = 11
status_number BadEdits = 12
