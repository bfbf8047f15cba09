-- The states of a journal, and the cost that its entries keep.
use Rattle.std.specs.Prelude.{◌≡◌, ℕ, zero, suc, List}
use Rattle.ra_base.specs.declared.ids.Machine.{Machine}
use Rattle.ra_model.specs.Costs.{objective}
use Rattle.ra_model.specs.Situations.{situation, cost_at, Situation}
use Rattle.ra_moves.specs.declared.steps.Step.{Step}
use Rattle.ra_moves.specs.declared.verdicts.Verdict.{Verdict}
use Rattle.ra_moves.specs.declared.verdicts.Verdict.TheVariants.{Done, Refused}
use Rattle.ra_moves.specs.Steps.{Distinct}
unfoldable pub use Rattle.ra_guards.specs.Made.{after_made}
use Rattle.ra_journal.specs.declared.entries.Entry.{Entry}
use Rattle.ra_journal.specs.Entries.{entry_at, made_by}
use Rattle.ra_journal.specs.Openings.{Opening}

-- a move that is done names no process twice
abbrev pub IsDistinctIfDone : List Step → Verdict → Type 0
IsDistinctIfDone steps verdict = (cost : ℕ) → verdict ≡ Done cost → Distinct steps

-- the state at place j: a0 with the moves of the entries that are done, among the first j, applied in order
unfoldable pub state : List Machine → List Entry → ℕ → List Machine
state a0 h zero = a0
state a0 h (suc j) = after_made (state a0 h j) (made_by (entry_at h j))

-- the situation at place j
abbrev pub state_at : Opening → List Entry → ℕ → Situation
state_at o h j = situation o.tables o.start (state o.start h j)

-- the cost after a verdict, given the cost before it
unfoldable pub cost_then : ℕ → Verdict → ℕ
cost_then cost (Done after) = after
cost_then cost (Refused cause) = cost

-- the kept cost at place j: that of the last entry that is done, among the first j, and the objective of the start if
-- none is
unfoldable pub kept_cost : Opening → List Entry → ℕ → ℕ
kept_cost o h zero = objective o.tables o.start o.start
kept_cost o h (suc j) = cost_then (kept_cost o h j) (entry_at h j).verdict

-- the challenge's objective of the state at place j, computed from scratch
unfoldable pub cost_of_state : Opening → List Entry → ℕ → ℕ
cost_of_state o h j = cost_at (state_at o h j)
