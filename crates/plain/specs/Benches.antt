-- What replaying needs and works on.
use Rattle.std.specs.Prelude.{◌≡◌, ℕ, ◌<◌, ◌≤◌, List, length}
use Rattle.ra_base.specs.declared.ids.Machine.{Machine}
use Rattle.ra_check.specs.Made.{IsMadeFor}
use Rattle.ra_model.specs.declared.raw.Tables.{Tables}
use Rattle.ra_model.specs.Numbers.{process_count}
use Rattle.ra_moves.specs.Steps.{StandsAt, from_in}
use Rattle.ra_journal.specs.declared.entries.Entry.{Entry}
use Rattle.ra_journal.specs.Entries.{entry_at, worker_count, budget}
use Rattle.ra_journal.specs.Legal.{IsLegal}
use Rattle.ra_journal.specs.States.{state, IsDistinctIfDone}
use Rattle.ra_journal.specs.Openings.{Opening}
use Rattle.plain.specs.declared.bench.Bench.{Bench}

-- a bench has room for the assignments of an instance, and tables for its checks
pub record IsBenchFor (b : Bench) (i : Tables) : Type 0 where
  pub state : b.state.room ≡ process_count i
  pub other : b.other.room ≡ process_count i
  pub scratch : IsMadeFor b.scratch i

-- the processes of each of the first n moves are where the move takes them from, and a move that is done names none
-- twice
pub record CanReplay (a0 : List Machine) (h : List Entry) (n : ℕ) : Type 0 where
  pub stands : (j : ℕ) → j < n → StandsAt from_in (entry_at h j).mv.steps (state a0 h j)
  pub distinct : (j : ℕ) → j < n → IsDistinctIfDone (entry_at h j).mv.steps (entry_at h j).verdict

-- an entry can be tested from place n: all entries before that place are legal, and the entry's proposal is within its
-- worker's budget
pub record CanTry (o : Opening) (h : List Entry) (n : ℕ) (e : Entry) :
    Type 0 where
  pub there : n ≤ length h
  pub before : IsLegal o h n
  pub worker : e.worker < worker_count o.lots
  pub left : e.k < budget o.lots e.worker
