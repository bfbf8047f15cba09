-- The entries of a journal, by place. A journal is a list of entries; places count from 0 (this project's).
use Rattle.std.specs.Prelude.{ℕ, List, [], length, map, Option, Some, None, ◌==◌, slice_index_or}
use Rattle.ra_base.specs.Sums.{total, count}
use Rattle.ra_base.specs.declared.causes.Cause.TheVariants.{Repeat}
use Rattle.ra_draws.specs.declared.budgets.Lots.{Lots}
use Rattle.ra_draws.specs.Lots.{budget_of, words_of, allowance_of}
use Rattle.ra_draws.specs.Shown.{lots_shown, slack_in}
use Rattle.ra_moves.specs.declared.steps.MoveKind.TheVariants.{Shift}
use Rattle.ra_moves.specs.declared.steps.Step.{Step}
use Rattle.ra_moves.specs.declared.verdicts.Verdict.{Verdict}
use Rattle.ra_moves.specs.declared.verdicts.Verdict.TheVariants.{Done, Refused}
use Rattle.ra_journal.specs.declared.entries.Entry.{Entry}

-- the entry at place j; past the end a refused one without steps, which nothing reads
unfoldable pub entry_at : List Entry → ℕ → Entry
entry_at h j =
    slice_index_or h j
    (record {
      worker = 0;
      k = 0;
      q = 0;
      mv = record { kind = Shift; steps = [] };
      verdict = Refused (Repeat (record { 0 = 0 }));
    })

-- the steps that a move makes under a verdict: all if it is done, and none if it is refused
unfoldable pub steps_made : Verdict → List Step → Option (List Step)
steps_made (Done cost) steps = Some steps
steps_made (Refused cause) steps = None

-- the steps that an entry makes
unfoldable pub made_by : Entry → Option (List Step)
made_by e = steps_made e.verdict e.mv.steps

-- what the entries of a journal make, place by place
unfoldable pub made_in : List Entry → List (Option (List Step))
made_in h = map made_by h

-- how many of the first n entries are of worker w
unfoldable pub entries_of : List Entry → ℕ → ℕ → ℕ
entries_of h n w = count n (λ j. (entry_at h j).worker == w)

-- how many lots there are, one for each worker, and a worker's budget
unfoldable pub worker_count : Lots → ℕ
worker_count l = length (lots_shown l)

unfoldable pub budget : Lots → ℕ → ℕ
budget l w = budget_of (lots_shown l) w

-- how many proposals all workers together make
unfoldable pub proposal_count : Lots → ℕ
proposal_count l = total (worker_count l) (budget l)

-- the words of proposal k of worker w, and by how much it may raise the cost
unfoldable pub words : Lots → ℕ → ℕ → List ℕ
words l w k = words_of (lots_shown l) w k

unfoldable pub allowed : Lots → ℕ → ℕ → ℕ
allowed l w k = allowance_of (slack_in l) (lots_shown l) w k
