-- A file that is looked at from one place to another.
use Rattle.std.proofs.Common.{◌≡◌, ℕ, ◌≤◌, List, Option, IfSome}
use Rattle.ra_token.specs.declared.answers.TheConstants.{LARGEST, PLACE_LIMIT}
use Rattle.ra_token.specs.declared.buffer.Buffer.{Buffer}
use Rattle.ra_token.specs.Scan.{Shows, IsReached, InRun}

-- nothing that is held changed, and no fault was forgotten
pub record KeepsFiles (held_before held_now : List ℕ → Option (List ℕ)) (faults_before faults_now : List ℕ → ℕ) : Type 0
  where
    pub kept : (other : List ℕ) → held_now other ≡ held_before other
    pub never_fell : (other : List ℕ) → faults_before other ≤ faults_now other

-- blanks alone were passed on the way to a place
pub record PassesBlanks (told told_now : Option (List ℕ)) (buffer : Buffer) (from place : ℕ) : Type 0 where
  pub low : place ≤ PLACE_LIMIT
  pub shows : Shows told_now buffer
  pub reached : IfSome told (λ bytes. IsReached bytes from place)

-- digits alone were passed, of a run with its worth so far
pub record PassesDigits (told told_now : Option (List ℕ)) (buffer : Buffer) (start place value : ℕ) : Type 0 where
  pub low : place ≤ PLACE_LIMIT
  pub after : start ≤ place
  pub small : value ≤ LARGEST
  pub shows : Shows told_now buffer
  pub run : IfSome told (λ bytes. InRun bytes start place value)
