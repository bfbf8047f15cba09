-- A worker while it runs: its replica follows what its pass has seen of the journal.
use Rattle.std.specs.Prelude.{◌≡◌, ℕ, ◌+◌, ◌*◌, ◌<◌, ◌≤◌, length}
use Rattle.ra_journal.specs.Batches.{batch_from}
use Rattle.ra_journal.specs.declared.replies.Reply.{Reply}
use Rattle.ra_journal.specs.declared.replies.Reply.TheVariants.{Recorded, Stale}
use Rattle.ra_journal.specs.Entries.{entries_of, proposal_count}
use Rattle.ra_turn.specs.Passes.{seen_by, notes_made_by}
use Rattle.ra_shared.specs.declared.shared.Shared.{Shared}
use Rattle.ra_shared.specs.Shares.{start_of, IsAtRest}
use Rattle.ra_shared.specs.Books.{opening_by}
use Rattle.ra_worker.specs.Replicas.{IsAt, ArePassed}
use Rattle.ra_worker.specs.declared.worker.Worker.{Worker}

-- a worker outside its turns: its pass is at rest, and its replica is the same worker's, at a state of what the pass
-- has seen
pub record IsAtWork (s : Shared) (w : Worker) : Type 0 where
  pub rest : IsAtRest s w.pass
  pub same : w.replica.worker ≡ w.pass.number
  pub at :
      IsAt (opening_by (start_of s)) (seen_by w.pass)
      w.replica

-- it has taken in all entries that it has made
pub record HasOwn (w : Worker) : Type 0 where
  pub number : w.replica.next ≡ length (notes_made_by w.pass)

-- an entry that it has seen: no entry of its own comes after that place
pub record IsAtOrAfterOwn (shown : ℕ) (w : Worker) : Type 0 where
  pub within : shown < length (seen_by w.pass)
  pub own : entries_of (seen_by w.pass) (shown + 1) w.pass.number ≡ length (notes_made_by w.pass)

-- it has this number of turns to spare, and one for each proposal of the run that it has not taken in
pub record HasTurnsToSpare (s : Shared) (spare : ℕ) (w : Worker) : Type 0 where
  pub turns : proposal_count (start_of s).lots + spare ≤ w.pass.left + w.replica.place

-- for the same worker: each turn that it has taken advanced its place by at least one
pub record HasTurned (before after : Worker) : Type 0 where
  pub number : after.pass.number ≡ before.pass.number
  pub turns : before.pass.left + before.replica.place ≤ after.pass.left + after.replica.place
  pub fewer : after.pass.left ≤ before.pass.left

-- for the same worker: it has taken a turn, and at most as many turns as its place advanced
pub record HasMovedOn (before after : Worker) : Type 0 where
  pub number : after.pass.number ≡ before.pass.number
  pub turns : before.pass.left + before.replica.place ≤ after.pass.left + after.replica.place
  pub fewer : after.pass.left < before.pass.left

-- it may go on: it has two turns left for each proposal of the run that its replica has not taken in
pub record MayGoOn (s : Shared) (w : Worker) : Type 0 where
  pub work : IsAtWork s w
  pub own : HasOwn w
  pub turns : 2 * proposal_count (start_of s).lots ≤ w.pass.left + 2 * w.replica.place

-- its batch is what it has seen and not taken in, at most 1,024 entries
pub record HasNextBatch (w : Worker) : Type 0 where
  pub next : w.batch ≡ batch_from (seen_by w.pass) w.replica.place

-- what it has seen and not taken in is refused, and one entry of it is its own
abbrev pub IsQuiet : Worker → Type 0
IsQuiet w = ArePassed w.replica (length (seen_by w.pass)) (seen_by w.pass)

-- the place of the entry that an answer shows
unfoldable pub shown_in : Reply → ℕ
shown_in (Recorded at verdict) = at
shown_in (Stale guard at) = at
