-- The best state of a journal.
use Rattle.std.specs.Prelude.{ℕ, suc, List, length, Some}
use Rattle.ra_base.specs.Searches.{least_place}
use Rattle.ra_journal.specs.declared.entries.Entry.{Entry}
use Rattle.ra_journal.specs.States.{cost_of_state}
use Rattle.ra_journal.specs.Openings.{Opening}

-- the first of the places 0 to n whose state has the least objective
unfoldable pub best_place : Opening → List Entry → ℕ → ℕ
best_place o h n = least_place (suc n) (λ j. Some (cost_of_state o h j))

-- the place of the best state of the whole journal
unfoldable pub best_of : Opening → List Entry → ℕ
best_of o h = best_place o h (length h)
