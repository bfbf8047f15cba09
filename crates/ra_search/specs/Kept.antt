-- A list that is kept with the parts of its cost.
use Rattle.std.specs.Prelude.{◌≡◌, ◌≤◌}
use Rattle.ra_model.specs.Numbers.{process_count}
use Rattle.ra_model.specs.Situations.{Situation, IsSound, parts_at}
use Rattle.ra_search.specs.declared.kept.Kept.{Kept}

-- the situation in which the kept list is the present one
abbrev pub kept_at : Situation → Kept → Situation
kept_at st kept = record st { here = kept.list.items }

-- the list is a feasible assignment from the start, its cost has these parts, and it has room for a list of all processes
pub record IsKept (st : Situation) (kept : Kept) : Type 0 where
  pub sound : IsSound (kept_at st kept)
  pub parts : kept.parts ≡ parts_at (kept_at st kept)
  pub room : process_count st.tables ≤ kept.list.room
