use Rattle.ra_token.specs.Scan.{TakesRuns}
use Rattle.ra_token.proofs.Taking.{InBlock}
use Rattle.ra_token.proofs.scan.block_runs.Given as goal

abbrev pub invariant-loop-k : goal.invariant-loop-k
invariant-loop-k l = InBlock l.bytes l.from l.at l.rest × TakesRuns l.bytes l.from l.at l.k l.initial.values l.values
