-- The machines so far exist.
use Rattle.std.proofs.Common.{ℕ, ◌<◌}
use Rattle.ra_model.specs.Numbers.{machine_count}
use Rattle.ra_model.specs.Assignments.{machine_at}
use Rattle.ra_model.proofs.numbers.Instance.is_assignment.Given as goal

abbrev pub invariant-loop-p : goal.invariant-loop-p
invariant-loop-p l = (p : ℕ) → p < l.p → machine_at l.a.items p < machine_count l.self.tables
