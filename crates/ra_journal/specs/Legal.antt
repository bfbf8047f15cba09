-- Which journals are legal: each entry is the proposal of its worker, planned at a stated earlier place, with no guard
-- touched since, and judged at its own place (this project's).
use Rattle.std.specs.Prelude.{◌≡◌, ℕ, ◌<◌, ◌≤◌, List, length}
use Rattle.ra_draws.specs.declared.budgets.Lots.{Lots}
use Rattle.ra_draws.specs.Shown.{drawing_in}
use Rattle.ra_moves.specs.Judging.{judge}
use Rattle.ra_moves.specs.Options.{plan_of}
use Rattle.ra_guards.specs.Versions.{Untouched}
use Rattle.ra_journal.specs.declared.entries.Entry.{Entry}
use Rattle.ra_journal.specs.Entries.{entry_at, made_in, entries_of, worker_count, budget, words, allowed}
use Rattle.ra_journal.specs.Openings.{Opening}
use Rattle.ra_journal.specs.States.{state_at}

-- the worker exists, and k is the number of its earlier entries, below its budget
pub record IsNumbered (l : Lots) (h : List Entry) (j : ℕ) (e : Entry) : Type 0 where
  pub worker : e.worker < worker_count l
  pub number : e.k ≡ entries_of h j e.worker
  pub budget : e.k < budget l e.worker

-- the proposal was planned at place q, which is not after its own place, and all earlier entries of its worker are
-- before q
pub record IsPlaced (h : List Entry) (j : ℕ) (e : Entry) : Type 0 where
  pub place : e.q ≤ j
  pub seen : (n : ℕ) → n < j → (entry_at h n).worker ≡ e.worker → n < e.q

-- entry e may be at place j of journal h, after the entries before that place
pub record IsLegalAt (o : Opening) (h : List Entry) (j : ℕ) (e : Entry) : Type 0 where
  -- k is the number of earlier entries of its worker
  pub numbered : IsNumbered o.lots h j e
  -- it was planned at place q, after all earlier entries of its worker
  pub placed : IsPlaced h j e
  -- its move is the plan at the state of place q, for its words and its allowance
  pub planned :
      e.mv ≡ plan_of (state_at o h e.q) (words o.lots e.worker e.k) (drawing_in o.lots)
      (allowed o.lots e.worker e.k)
  -- no entry from place q on has touched a guard of its move
  pub untouched : Untouched o.tables (made_in h) e.q j e.mv.steps
  -- its verdict is the judge's at the state of its own place
  pub judged : e.verdict ≡ judge (state_at o h j) e.mv.steps (allowed o.lots e.worker e.k)

-- the first n entries are legal
pub record IsLegal (o : Opening) (h : List Entry) (n : ℕ) : Type 0 where
  pub each : (j : ℕ) → j < n → IsLegalAt o h j (entry_at h j)

-- a journal is legal if all its entries are
abbrev pub Legal : Opening → List Entry → Type 0
Legal o h = IsLegal o h (length h)

-- a whole journal: each worker has exactly as many entries as its budget, and no other worker has any
pub record Whole (l : Lots) (h : List Entry) : Type 0 where
  pub each : (w : ℕ) → w < worker_count l → entries_of h (length h) w ≡ budget l w
  pub no_other : (j : ℕ) → j < length h → (entry_at h j).worker < worker_count l
