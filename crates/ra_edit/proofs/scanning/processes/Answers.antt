-- There are few processes.
use Rattle.std.proofs.Common.{arith}
use Rattle.ra_edit.proofs.SoundLaws.{few_of}
use Rattle.ra_edit.proofs.scanning.processes.Goals as goal

pub overflow_cast-result : goal.overflow_cast-result
overflow_cast-result c = omega (arith, (few_of c.requires).rows, c.len.ensures.value)

pub returns-clause-bound : goal.returns-clause-bound
returns-clause-bound c = omega (arith, (few_of c.requires).rows, c.len.ensures.value)
