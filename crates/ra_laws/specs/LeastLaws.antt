-- What is chosen as the first of least cost, stated as a relation and not as a search.
use Rattle.std.specs.Prelude.{◌≡◌, ℕ, suc, ◌<◌, List, length, Option, Some, None}
use Rattle.ra_base.specs.Searches.{IsLeast}
use Rattle.ra_base.specs.declared.causes.Drawing.{Drawing}
use Rattle.ra_base.specs.declared.ids.Machine.{Machine}
use Rattle.ra_model.specs.declared.raw.Tables.{Tables}
use Rattle.ra_model.specs.Numbers.{machine_count}
use Rattle.ra_model.specs.Situations.{situation}
use Rattle.ra_moves.specs.Options.{option_count, option_at, option_cost, plan_of}
use Rattle.ra_journal.specs.declared.entries.Entry.{Entry}
use Rattle.ra_journal.specs.States.{cost_of_state}
use Rattle.ra_journal.specs.Best.{best_of}
use Rattle.ra_journal.specs.Openings.{Opening}
use Rattle.ra_repair.specs.Runs.{try_count, try_option, option_penalty, chosen}

-- p is the first place of least value among the places below n that have one, and 0 if none has one
pub record IsChosen (n : ℕ) (f : ℕ → Option ℕ) (p : ℕ) : Type 0 where
  pub some : (k x : ℕ) → k < n → f k ≡ Some x → (v : ℕ) × IsLeast n f p v
  pub none : ((k : ℕ) → k < n → f k ≡ None) → p ≡ 0

-- the plan of assignment a, reached from a0, is the first option of least cost among those that are judged Done, and
-- option 0 if none is
abbrev pub PlanIsLeast : Type 0
PlanIsLeast =
    (i : Tables) (a0 a : List Machine) (x : List ℕ) (d : Drawing) (allowed : ℕ)
    → (p : ℕ) × (plan_of (situation i a0 a) x d allowed ≡ option_at a x (machine_count i) d p)
    × IsChosen (option_count x (machine_count i) d) (option_cost (situation i a0 a) x d allowed) p

-- the best state of a journal is the first of least cost among all its states, including that of place 0
abbrev pub BestIsLeast : Type 0
BestIsLeast =
    (o : Opening) (h : List Entry)
    → IsLeast (suc (length h)) (λ j. Some (cost_of_state o h j)) (best_of o h)
    (cost_of_state o h (best_of o h))

-- the option that a try of a repair chooses is the first with the least penalty after it among those that neither
-- repeat a process nor stay, and option 0 if all do
abbrev pub ChoiceIsLeast : Type 0
ChoiceIsLeast =
    (i : Tables) (a0 a : List Machine) (x : List ℕ)
    → (p : ℕ) × (chosen i a0 a x ≡ try_option i a x p)
    × IsChosen (try_count i x) (option_penalty i a0 a x) p
