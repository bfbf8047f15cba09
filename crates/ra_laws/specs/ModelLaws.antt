-- What holds of the problem's words for every instance and every assignment, each proved by a function of `model`.
use Rattle.std.specs.Prelude.{◌≡◌, ◌↔◌, ℕ, ◌+◌, ◌<◌, Bool, List, length, slice_index, slice_set, None}
use Rattle.ra_base.specs.Sums.{count, pick}
use Rattle.ra_base.specs.declared.ids.Machine.{Machine}
use Rattle.ra_model.specs.declared.raw.Tables.{Tables}
use Rattle.ra_model.specs.Numbers.{process_count}
use Rattle.ra_model.specs.Limits.{WellFormed}
use Rattle.ra_model.specs.Assignments.{IsAssignment, machine_at, tally}
use Rattle.ra_model.specs.Services.{is_of, members_at}
use Rattle.ra_model.specs.Feasible.{Feasible}
use Rattle.ra_model.specs.Broken.{first_broken}

-- no constraint is named as broken exactly if all are met
abbrev pub BrokenNamesAll : Type 0
BrokenNamesAll =
    (i : Tables) (a0 a : List Machine) → WellFormed i → IsAssignment i a
    → (first_broken i a0 a ≡ None) ↔ Feasible i a0 a

-- if process p moves to another machine, a sum over the processes changes by the share of p
abbrev pub OneShareChanges : Type 0
OneShareChanges =
    (n p : ℕ) (f : ℕ → ℕ → ℕ) (a : List Machine) (to : Machine) → p < n → p < length a
    → tally n f (slice_set a p to) + f p (machine_at a p) ≡ tally n f a + f p to.0

-- a count over the processes of a service may go only over a list of them, which g gives place by place
abbrev pub CountsGoOverMembers : Type 0
CountsGoOverMembers =
    (i : Tables) (a : List Machine) (s : ℕ) (test : ℕ → ℕ → Bool) (n : ℕ) (g : ℕ → ℕ)
    → n ≡ count (process_count i) (is_of i s)
    → ((j : ℕ) → j < n → g j ≡ slice_index (pick (process_count i) (is_of i s)) j)
    → members_at i a s test ≡ count n (λ j. test (g j) (machine_at a (g j)))
