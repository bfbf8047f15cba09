use Rattle.std.proofs.Common.{◌-◌, length}
use Rattle.ra_shared.proofs.shared.Shared.+commit_from.Given as goal

abbrev pub decreases-commit_from : goal.decreases-commit_from
decreases-commit_from g l = length l.guards.now - l.k
