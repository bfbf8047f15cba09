-- A worker's whole run.
use Rattle.std.specs.Prelude.{◌≡◌, ◌+◌, ◌*◌, ◌≤◌, length}
use Rattle.ra_journal.specs.Entries.{budget, proposal_count}
use Rattle.ra_turn.specs.Passes.{notes_made_by}
use Rattle.ra_shared.specs.declared.shared.Shared.{Shared}
use Rattle.ra_shared.specs.Shares.{start_of, IsAtRest}
use Rattle.ra_worker.specs.declared.worker.Worker.{Worker}
use Rattle.ra_worker.specs.Working.{IsAtWork, HasOwn}

-- a worker may run: it has twice as many turns left as all budgets together
pub record MayRun (s : Shared) (w : Worker) : Type 0 where
  pub work : IsAtWork s w
  pub own : HasOwn w
  pub turns : 2 * proposal_count (start_of s).lots ≤ w.pass.left

-- a worker has run: it has made as many entries as its budget, in at most twice as many turns as all budgets together
pub record HasRun (s : Shared) (before after : Worker) : Type 0 where
  pub rest : IsAtRest s after.pass
  pub number : after.pass.number ≡ before.pass.number
  pub made : length (notes_made_by after.pass) ≡ budget (start_of s).lots before.pass.number
  pub turns : before.pass.left ≤ after.pass.left + 2 * proposal_count (start_of s).lots
