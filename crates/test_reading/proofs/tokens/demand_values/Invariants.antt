-- The reader is in its file.
use Rattle.ra_token.specs.Reads.{Reads}
use Rattle.test_reading.proofs.tokens.demand_values.Given as goal

abbrev pub invariant-loop-want : goal.invariant-loop-want
invariant-loop-want g l = Reads (g.F.Files.held l.files l.tokens.name) l.tokens
