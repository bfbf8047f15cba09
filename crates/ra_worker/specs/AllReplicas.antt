-- The replicas of all workers, in order. With a journal they are the core of a run.
use Rattle.std.specs.Prelude.{◌≡◌, ℕ, ◌<◌, List, length, map, slice_index_or}
use Rattle.ra_journal.specs.declared.entries.Entry.{Entry}
use Rattle.ra_journal.specs.Entries.{worker_count}
use Rattle.ra_journal.specs.Openings.{Opening}
use Rattle.ra_worker.specs.Replicas.{Progress, IsAt}
use Rattle.ra_worker.specs.Core.{Core}

-- replica w of a list is the one of worker w, at a state of a journal
pub record IsAtOf (o : Opening) (h : List Entry) (w : ℕ) (r : Progress) : Type 0 where
  pub worker : r.worker ≡ w
  pub at : IsAt o h r

-- there is one replica for each worker, in order, each at a state of a journal
pub record AreAt (o : Opening) (h : List Entry) (replicas : List Progress) : Type 0 where
  pub one_each : length replicas ≡ worker_count o.lots
  pub each : (w : ℕ) (r : Progress) → w < length replicas → slice_index_or replicas w r ≡ r
      → IsAtOf o h w r

-- the core that consists of a journal and the replicas' places
unfoldable pub core_of : List Entry → List Progress → Core
core_of h replicas = record { journal = h; places = map (λ (r : Progress). r.place) replicas }
