-- `solve`. `sent` is a predicate on texts that says how far a text came: the output took it whole, or broke off after a
-- front of it.
use Rattle.std.specs.Prelude.{◌≡◌, ℕ, ◌<◌, ◌≤◌, List, length, Option}
use Rattle.ra_base.specs.declared.ids.Machine.{Machine}
use Rattle.ra_model.specs.declared.raw.Tables.{Tables}
use Rattle.ra_model.specs.Assignments.{IsAssignment}
use Rattle.ra_model.specs.Costs.{parts_of, objective}
use Rattle.ra_model.specs.Feasible.{Feasible}
use Rattle.ra_bounds.specs.PinnedBounds.{pinned_bound_of}
use Rattle.ra_draws.specs.declared.budgets.Lots.{Lots}
use Rattle.ra_draws.specs.Shown.{drawing_in}
use Rattle.ra_journal.specs.declared.entries.Entry.{Entry}
use Rattle.ra_journal.specs.Entries.{worker_count}
use Rattle.ra_journal.specs.Laws.{IsSoundAt}
use Rattle.ra_journal.specs.Legal.{Legal, Whole}
use Rattle.ra_journal.specs.Solo.{solo}
use Rattle.ra_journal.specs.States.{state, cost_of_state}
use Rattle.ra_journal.specs.Openings.{Opening, opening}
use Rattle.ra_report.specs.JournalTexts.{report_lines, report_text, IsJournalOf}
use Rattle.ra_jobs.specs.Commands.{Command, OverFiles, over, judged}
use Rattle.ra_jobs.specs.Files.{Held, Names, Accepts, solve_names}

-- the state at place j of a journal is the first of least objective: no state costs less, and each earlier one costs
-- more
pub record IsFirstLeast (o : Opening) (h : List Entry) (j : ℕ) : Type 0 where
  pub within : j ≤ length h
  pub least : (n : ℕ) → n ≤ length h → cost_of_state o h j ≤ cost_of_state o h n
  pub first : (n : ℕ) → n < j → cost_of_state o h j < cost_of_state o h n

-- `solve`, the headline: the printed journal is one legal history in which every proposal of every worker occurs
-- exactly once; every state in it meets all constraints, and its kept cost is the challenge's objective computed from
-- scratch; the printed assignment is the first of least cost among those states, its parts are exact, and no feasible
-- assignment costs less than the printed bound
pub record SolvePrinted (held : Held) (names : Names) (l : Lots) (sent : List ℕ → Type 0) : Type 0 where
  pub tables : Tables
  pub a0 : List Machine
  pub journal : List Entry
  pub bytes : List ℕ
  -- the files mean an instance and an initial assignment, which is feasible
  pub accepts : Accepts held names tables a0 a0
  pub start : Feasible tables a0 a0
  -- these bytes were sent: they are the report of the journal, which is the only one that they tell, and the journal is
  -- legal and whole
  pub text : sent bytes
  pub report : bytes ≡ report_text (opening tables a0 l) journal
  pub told : IsJournalOf bytes journal
  pub only : (other : List Entry) → IsJournalOf bytes other → other ≡ journal
  pub legal : Legal (opening tables a0 l) journal
  pub whole : Whole l journal
  -- with one lot it is the run of one worker alone
  pub alone : worker_count l ≡ 1 → journal ≡ solo (opening tables a0 l)
  -- every state is a feasible assignment, and the kept cost there is its objective
  pub sound : (j : ℕ) → j ≤ length journal → IsSoundAt (opening tables a0 l) journal j
  -- the first of least cost among these states is at this place; the lines tell its parts, the bound's total, the
  -- place, the state and the drawing, and then the journal
  pub best_at : ℕ
  pub best : IsFirstLeast (opening tables a0 l) journal best_at
  pub lines :
      bytes ≡ report_lines (parts_of tables a0 (state a0 journal best_at))
      (pinned_bound_of tables a0).total best_at (state a0 journal best_at) (drawing_in l) journal
  -- no assignment that is feasible with respect to the start costs less than the bound
  pub least : (a : List Machine) → IsAssignment tables a → Feasible tables a0 a
      → (pinned_bound_of tables a0).total ≤ objective tables a0 a

-- the own part of `solve`, for the lots that were asked for
abbrev pub solving : Names → (Lots → Type 0) → OverFiles
solving names asked = judged names (λ held sent. (l : Lots) × asked l × SolvePrinted held names l sent)

abbrev pub solve_command : List ℕ → List ℕ → Option (List ℕ) → (Lots → Type 0) → Command
solve_command model initial closed asked = over (solving (solve_names model initial closed) asked)
