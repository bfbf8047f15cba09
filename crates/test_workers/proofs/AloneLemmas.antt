-- A worker that is made of a new pass may run.
use Rattle.std.proofs.Common.{◌≡◌, List, sym, ◌∙◌}
use Rattle.ra_journal.specs.declared.entries.Entry.{Entry}
use Rattle.ra_journal.specs.Openings.{Opening}
use Rattle.ra_shared.specs.declared.shared.Shared.{Shared}
use Rattle.ra_shared.specs.Shares.{start_of, IsNew}
use Rattle.ra_shared.specs.Books.{opening_by}
use Rattle.ra_worker.specs.Replicas.{IsAt}
use Rattle.ra_worker.specs.declared.worker.Worker.{Worker}
use Rattle.ra_worker.specs.Running.{MayRun}
use Rattle.ra_worker.proofs.Runs.{ready_as}

-- the only worker of a journal
pub may_run : (s : Shared) (o : Opening) (w : Worker) → opening_by (start_of s) ≡ o →
    w.replica.worker ≡ 0 → ((h : List Entry) → IsAt o h w.replica) → IsNew s 0 w.pass → MayRun s w
may_run s o w opened own at new =
    (ready_as s o w 0 opened (record { worker = own ∙ sym new.number; at = at }) new).may
