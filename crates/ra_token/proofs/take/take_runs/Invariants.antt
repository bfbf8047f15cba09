use Rattle.std.proofs.Common.{◌≡◌, ◌+◌, ◌-◌, length}
use Rattle.ra_token.specs.Scan.{TakesRuns}
use Rattle.ra_token.proofs.take.take_runs.Given as goal

abbrev pub invariant-loop-taken : goal.invariant-loop-taken
invariant-loop-taken l =
    TakesRuns l.bytes l.from l.at l.most l.initial.values l.values × (length l.values.items ≡ l.before + l.taken)
    × (l.before ≡ length l.initial.values.items)

abbrev pub decreases-loop-taken : goal.decreases-loop-taken
decreases-loop-taken l = length l.bytes - l.at
