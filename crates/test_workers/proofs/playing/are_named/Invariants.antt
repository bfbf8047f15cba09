-- The events so far name workers.
use Rattle.std.proofs.Common.{ℕ, ◌<◌}
use Rattle.ra_journal.specs.Entries.{worker_count}
use Rattle.ra_worker.specs.Core.{worker_of_event, event_at}
use Rattle.test_workers.proofs.playing.are_named.Given as goal

abbrev pub invariant-loop-n : goal.invariant-loop-n
invariant-loop-n l = (k : ℕ) → k < l.n → worker_of_event (event_at l.events.items k) < worker_count l.lots
