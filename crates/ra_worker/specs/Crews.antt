-- All workers of a run.
use Rattle.std.specs.Prelude.{◌≡◌, ℕ, List, length}
use Rattle.ra_journal.specs.declared.entries.Entry.{Entry}
use Rattle.ra_journal.specs.Entries.{worker_count, budget}
use Rattle.ra_journal.specs.Openings.{Opening}
use Rattle.ra_turn.specs.Passes.{EachAt, notes_made_by}
use Rattle.ra_shared.specs.declared.shared.Shared.{Shared}
use Rattle.ra_shared.specs.Shares.{start_of, IsAtRest}
use Rattle.ra_worker.specs.Replicas.{IsAt}
use Rattle.ra_worker.specs.declared.worker.Worker.{Worker}
use Rattle.ra_worker.specs.Running.{MayRun}

-- a worker that hasn't begun: its replica is the one of its pass's worker, and at a state of every journal
pub record HasNotBegun (o : Opening) (w : Worker) : Type 0 where
  pub worker : w.replica.worker ≡ w.pass.number
  pub at : (h : List Entry) → IsAt o h w.replica

-- worker n may run
pub record IsReadyAs (s : Shared) (n : ℕ) (w : Worker) : Type 0 where
  pub may : MayRun s w
  pub number : w.pass.number ≡ n

-- there is one worker for each lot, in order, and each may run
pub record AreReady (s : Shared) (ws : List Worker) : Type 0 where
  pub one_each : length ws ≡ worker_count (start_of s).lots
  pub each : EachAt (IsReadyAs s) ws

-- worker n has run: it has made as many entries as its budget
pub record IsFinishedAs (s : Shared) (n : ℕ) (w : Worker) : Type 0 where
  pub rest : IsAtRest s w.pass
  pub number : w.pass.number ≡ n
  pub made : length (notes_made_by w.pass) ≡ budget (start_of s).lots n

-- there is one worker for each lot, in order, and each has run
pub record HaveRun (s : Shared) (ws : List Worker) : Type 0 where
  pub one_each : length ws ≡ worker_count (start_of s).lots
  pub each : EachAt (IsFinishedAs s) ws
