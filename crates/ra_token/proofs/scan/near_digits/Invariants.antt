use Rattle.std.proofs.Common.{◌≡◌, ℕ, ◌+◌, ◌^◌, ◌<◌, ◌≤◌, true, List, length}
use Rattle.ra_token.specs.declared.answers.TheConstants.{PLACE_LIMIT}
use Rattle.ra_token.specs.Runs.{digit_at}
use Rattle.ra_token.specs.Reads.{IsPiece}
use Rattle.ra_token.specs.Scan.{InRun}
use Rattle.ra_token.proofs.scan.near_digits.Given as goal

abbrev pub invariant-loop-k : goal.invariant-loop-k
invariant-loop-k l =
    (l.value < 10 ^ l.k)
    × (l.from < l.from + l.k → digit_at l.bytes l.from ≡ true)
    × ((all : List ℕ) (start first : ℕ) → start + length l.bytes ≤ PLACE_LIMIT → IsPiece all start l.bytes →
    InRun all first (start + l.from) 0 → InRun all first (start + (l.from + l.k)) l.value)
