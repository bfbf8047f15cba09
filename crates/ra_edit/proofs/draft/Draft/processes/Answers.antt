use Rattle.std.proofs.Common.{arith}
use Rattle.ra_edit.proofs.SoundLaws.{few_rows}
use Rattle.ra_edit.proofs.draft.Draft.processes.Goals as goal

pub overflow_cast-result : goal.overflow_cast-result
overflow_cast-result c = omega (arith, few_rows c.self.invariant.kept, c.len.ensures.value)
