-- Versions of guards in a history. A history is given as a list: what steps each of its entries makes, which are those
-- of its move if the entry is done, and none if it is refused.
use Rattle.std.specs.Prelude.{◌≡◌, ℕ, suc, ◌<◌, ◌≤◌, List, Option, Some, None, Bool, true, false, if◌then◌else◌}
use Rattle.std.specs.Prelude.{slice_index_or}
use Rattle.ra_base.specs.Sums.{greatest}
use Rattle.ra_base.specs.declared.ids.Guard.{Guard}
use Rattle.ra_model.specs.declared.raw.Tables.{Tables}
use Rattle.ra_moves.specs.declared.steps.Step.{Step}
use Rattle.ra_guards.specs.Guards.{writes, is_guard}

-- what the entry at place j makes, and nothing past the end
unfoldable pub made_at : List (Option (List Step)) → ℕ → Option (List Step)
made_at made j = slice_index_or made j None

-- an entry that is done touches the write guards of its move, and a refused one touches nothing
unfoldable pub touches : Tables → Option (List Step) → Guard → Bool
touches i None g = false
touches i (Some steps) g = writes i steps g

-- one more than place j, if the entry there touches a guard
unfoldable pub stamp : Tables → List (Option (List Step)) → Guard → ℕ → ℕ
stamp i made g j = if touches i (made_at made j) g then suc j else 0

-- the version of a guard after the first n entries: one more than the place of the last that touches it, and 0 if none
-- does
unfoldable pub version : Tables → List (Option (List Step)) → ℕ → Guard → ℕ
version i made n g = greatest n (stamp i made g)

-- no entry from place q on, among the first n, has touched a guard of a move
pub record Untouched (i : Tables) (made : List (Option (List Step))) (q n : ℕ) (steps : List Step) :
    Type 0 where
  pub each : (g : Guard) → is_guard i steps g ≡ true → version i made n g ≤ q

-- the other steps write no guard of the first steps
pub record Apart (i : Tables) (steps others : List Step) : Type 0 where
  pub each : (g : Guard) → is_guard i steps g ≡ true → writes i others g ≡ false

-- the entries from place q on, among the first n, write no guard of a move
pub record ApartSince (i : Tables) (made : List (Option (List Step))) (q n : ℕ) (steps : List Step)
    : Type 0 where
  pub each : (j : ℕ) (others : List Step) → q ≤ j → j < n → made_at made j ≡ Some others
      → Apart i steps others
