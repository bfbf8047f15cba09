-- What holds of every journal, each proved by a function of `ra_laws`.
use Rattle.std.specs.Prelude.{◌≡◌, ℕ, ◌<◌, ◌≤◌, List, [], ◌∷◌, ◌++◌, length, Some}
use Rattle.ra_draws.specs.declared.budgets.Lots.{Lots}
use Rattle.ra_model.specs.Limits.{WellFormed}
use Rattle.ra_model.specs.Assignments.{IsAssignment}
use Rattle.ra_model.specs.Feasible.{Feasible}
use Rattle.ra_model.specs.Situations.{IsFeasible}
use Rattle.ra_moves.specs.declared.steps.Step.{Step}
use Rattle.ra_moves.specs.Moving.{IsMove, IsOffered}
use Rattle.ra_journal.specs.declared.entries.Entry.{Entry}
use Rattle.ra_journal.specs.Committing.{next_number, committed}
use Rattle.ra_journal.specs.Entries.{entry_at, made_by, worker_count, budget}
use Rattle.ra_journal.specs.States.{state, kept_cost, cost_of_state, state_at}
use Rattle.ra_journal.specs.Legal.{IsLegalAt, Legal, Whole}
use Rattle.ra_journal.specs.Solo.{solo}
use Rattle.ra_journal.specs.Openings.{Opening}

-- what holds of the state at place j
pub record IsSoundAt (o : Opening) (h : List Entry) (j : ℕ) : Type 0 where
  pub assignment : IsAssignment o.tables (state o.start h j)
  pub feasible : IsFeasible (state_at o h j)
  pub kept : kept_cost o h j ≡ cost_of_state o h j

-- if the start is feasible and the journal legal, every state is feasible, and the kept cost is its objective
abbrev pub LegalIsSound : Type 0
LegalIsSound =
    (o : Opening) (h : List Entry) → WellFormed o.tables → IsAssignment o.tables o.start
    → Feasible o.tables o.start o.start → Legal o h → (j : ℕ) → j ≤ length h → IsSoundAt o h j

-- what the first n entries make are moves of the states before them: each process is named once, is on the machine that
-- its step leaves, and enters a machine of the instance
pub record MakesMoves (o : Opening) (h : List Entry) (n : ℕ) : Type 0 where
  pub each : (j : ℕ) (steps : List Step) → j < n → made_by (entry_at h j) ≡ Some steps
      → IsMove o.tables (state o.start h j) steps

-- each move that a legal journal makes is a move of the state where it is made
abbrev pub LegalMakesMoves : Type 0
LegalMakesMoves =
    (o : Opening) (h : List Entry) → WellFormed o.tables → IsAssignment o.tables o.start
    → Legal o h → MakesMoves o h (length h)

-- the move of the entry at place j can be weighed at the state where it was planned, and at that of its own place
pub record IsOfferedAt (o : Opening) (h : List Entry) (j : ℕ) : Type 0 where
  pub planned : IsOffered o.tables (state o.start h (entry_at h j).q) (entry_at h j).mv.steps
  pub here : IsOffered o.tables (state o.start h j) (entry_at h j).mv.steps

-- each entry of a legal journal has a move that can be weighed
abbrev pub LegalIsOffered : Type 0
LegalIsOffered =
    (o : Opening) (h : List Entry) → WellFormed o.tables → IsAssignment o.tables o.start
    → Legal o h → (j : ℕ) → j < length h → IsOfferedAt o h j

-- a legal next entry keeps a journal legal
abbrev pub NextKeepsLegal : Type 0
NextKeepsLegal =
    (o : Opening) (h : List Entry) (e : Entry) → Legal o h
    → IsLegalAt o h (length h) e → Legal o (h ++ e ∷ [])

-- worker w may hand in a proposal that it has planned at place q: it has some of its budget left, and q is a place of
-- the journal after all its entries
pub record MayCommit (l : Lots) (h : List Entry) (w q : ℕ) : Type 0 where
  pub worker : w < worker_count l
  pub left : next_number h w < budget l w
  pub place : q ≤ length h
  pub seen : (j : ℕ) → j < length h → (entry_at h j).worker ≡ w → j < q

-- a journal is legal after an answer
abbrev pub CommittedIsLegal : Type 0
CommittedIsLegal =
    (o : Opening) (h : List Entry) (w q : ℕ) → WellFormed o.tables → IsAssignment o.tables o.start
    → Feasible o.tables o.start o.start → Legal o h → MayCommit o.lots h w q
    → Legal o (committed o h w q).journal

-- a legal whole journal of one lot
pub record IsSoloRun (o : Opening) (h : List Entry) : Type 0 where
  pub legal : Legal o h
  pub whole : Whole o.lots h

-- with one lot, the run of one worker is legal and whole, and it is the only such journal
pub record OneLotIsSolo (o : Opening) : Type 0 where
  pub stands : IsSoloRun o (solo o)
  pub no_other : (h : List Entry) → IsSoloRun o h → h ≡ solo o

abbrev pub OneLotsJournal : Type 0
OneLotsJournal =
    (o : Opening) → worker_count o.lots ≡ 1 → OneLotIsSolo o
