use Rattle.std.proofs.Common.{◌≡◌, ◌+◌, ◌-◌, ◌*◌, ◌≤◌, true, length, get_or}
use Rattle.ra_token.specs.Runs.{is_blank}
use Rattle.ra_token.specs.Scan.{TakesRuns}
use Rattle.ra_token.proofs.Taking.{InBlock}
use Rattle.ra_token.proofs.short.tidy_runs.Given as goal

abbrev pub invariant-loop-rest : goal.invariant-loop-rest
invariant-loop-rest l =
    InBlock l.bytes l.from l.at l.rest × TakesRuns l.bytes l.from l.at 32 l.initial.values l.values
    × (is_blank (get_or l.bytes l.at 0) ≡ true) × (get_or l.bytes (l.at - 1) 0 ≤ 57)
    × (2 * (length l.values.items - length l.initial.values.items) + l.from ≤ l.at)

abbrev pub decreases-loop-rest : goal.decreases-loop-rest
decreases-loop-rest l = l.from + 64 - l.at
