-- `anneal`. `sent` is a predicate on texts that says how far a text came: the output took it whole, or broke off after a
-- front of it.
use Rattle.std.specs.Prelude.{◌≡◌, ℕ, ◌≤◌, List, Option, None}
use Rattle.ra_base.specs.declared.ids.Machine.{Machine}
use Rattle.ra_bounds.specs.PinnedBounds.{pinned_bound_of}
use Rattle.ra_descent.specs.Optimal.{NoShiftCheaper}
use Rattle.ra_model.specs.declared.raw.Tables.{Tables}
use Rattle.ra_model.specs.Assignments.{IsAssignment}
use Rattle.ra_model.specs.Costs.{objective, parts_of}
use Rattle.ra_model.specs.Feasible.{Feasible}
use Rattle.ra_model.specs.Situations.{situation}
use Rattle.ra_jobs.specs.Commands.{Command, OverFiles, over, judged}
use Rattle.ra_jobs.specs.Files.{Held, Names, Accepts, solve_names}
use Rattle.ra_anneal.specs.Texts.{annealed_text}

-- `anneal`, its headline: whatever the search does, the printed list breaks no rule, its cost and its parts are exact, it
-- costs no more than the list from which the search began, no move of a single process makes it cheaper, and no
-- feasible list costs less than the printed bound
pub record AnnealPrinted (held : Held) (names : Names) (sent : List ℕ → Type 0) : Type 0 where
  pub tables : Tables
  pub a0 : List Machine
  pub from : List Machine
  pub best : List Machine
  pub last : List Machine
  -- what the search tells of itself: any numbers
  pub heat : ℕ
  pub tries : ℕ
  pub done : ℕ
  pub bytes : List ℕ
  -- the files mean an instance, the initial list, from which processes move, and the list from which the search began.
  -- Without a file for it the search began at the initial list
  pub accepts : Accepts held names tables a0 from
  pub begins : names.changed ≡ None → from ≡ a0
  -- all four lists are feasible from the initial one; each gives every process one machine
  pub start : Feasible tables a0 a0
  pub begun : Feasible tables a0 from
  pub found : Feasible tables a0 best
  pub found_fits : IsAssignment tables best
  pub ended : Feasible tables a0 last
  pub ended_fits : IsAssignment tables last
  -- these bytes were sent: they are the twelve lines of the best list, its parts and the bound
  pub text : sent bytes
  pub lines :
      bytes
      ≡ annealed_text (parts_of tables a0 best) (pinned_bound_of tables a0).total heat tries done best last
  -- the best list costs no more than the list from which the search began, and no more than the last one
  pub no_dearer : objective tables a0 best ≤ objective tables a0 from
  pub below_last : objective tables a0 best ≤ objective tables a0 last
  -- no move of a single process makes it cheaper
  pub optimal : NoShiftCheaper (situation tables a0 best)
  -- no assignment that is feasible with respect to the initial list costs less than the bound
  pub least : (a : List Machine) → IsAssignment tables a → Feasible tables a0 a
      → (pinned_bound_of tables a0).total ≤ objective tables a0 a

-- the files of `anneal`: the list from which the search begins is in the place of the new list of a check
abbrev pub anneal_names : List ℕ → List ℕ → Option (List ℕ) → Option (List ℕ) → Names
anneal_names model initial from closed = record (solve_names model initial closed) { changed = from }

-- the own part of `anneal`
abbrev pub annealing : Names → OverFiles
annealing names = judged names (λ held sent. AnnealPrinted held names sent)

abbrev pub anneal_command : List ℕ → List ℕ → Option (List ℕ) → Option (List ℕ) → Command
anneal_command model initial from closed = over (annealing (anneal_names model initial from closed))
