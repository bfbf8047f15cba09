use Rattle.std.proofs.Common.{◌≡◌, length}
use Rattle.ra_io.specs.MemoryFiles as memory
use Rattle.ra_cases.proofs.parts.files_of.Given as goal

abbrev pub invariant-loop-rest : goal.invariant-loop-rest
invariant-loop-rest l = memory.each l.files ≡ l.fn.each

abbrev pub decreases-loop-rest : goal.decreases-loop-rest
decreases-loop-rest l = length l.rest
