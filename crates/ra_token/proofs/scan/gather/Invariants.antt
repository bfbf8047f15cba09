use Rattle.std.proofs.Common.{◌≡◌, ℕ, ◌+◌, ◌<◌, ◌≤◌, true, List, length}
use Rattle.ra_token.specs.declared.answers.TheConstants.{LARGEST, PLACE_LIMIT}
use Rattle.ra_token.specs.Runs.{digit_at}
use Rattle.ra_token.specs.Reads.{IsPiece}
use Rattle.ra_token.specs.Scan.{InRun}
use Rattle.ra_token.proofs.scan.gather.Given as goal

abbrev pub invariant-loop-i : goal.invariant-loop-i
invariant-loop-i l = (l.value ≤ LARGEST) × (l.from < l.i → digit_at l.bytes l.from ≡ true)
    × ((all : List ℕ) (start first : ℕ) → start + length l.bytes ≤ PLACE_LIMIT → IsPiece all start l.bytes →
    InRun all first (start + l.from) l.carried → InRun all first (start + l.i) l.value)
