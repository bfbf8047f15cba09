-- The stages of `anneal`.
use Rattle.std.specs.Prelude.{◌≡◌, ℕ, List, None}
use Rattle.std.specs.Option.{option_map_or}
use Rattle.ra_base.specs.declared.ids.Machine.{Machine}
use Rattle.ra_bounds.specs.PinnedBounds.{pinned_bound_of}
use Rattle.ra_model.specs.declared.raw.Tables.{Tables}
use Rattle.ra_model.specs.Assignments.{IsAssignment}
use Rattle.ra_model.specs.Costs.{parts_of}
use Rattle.ra_model.specs.Feasible.{Feasible}
use Rattle.ra_jobs.specs.Files.{Held, Names, Accepts}
use Rattle.ra_search.specs.declared.found.Found.{Found}
use Rattle.ra_search.specs.Found.{IsFound}
use Rattle.ra_anneal.specs.declared.given.Costs.{Costs}
use Rattle.ra_anneal.specs.declared.given.Given.{Given}
use Rattle.ra_anneal.specs.Texts.{annealed_text}

-- the list with which a search begins: the one that is given for it, or the initial list
abbrev pub from_in : Given → List Machine
from_in given = option_map_or (λ list. list.items) given.from given.initial.items

-- all files were accepted, and both lists fit the instance; without a file for it a search begins at the initial list
pub record IsGiven (held : Held) (names : Names) (given : Given) : Type 0 where
  pub accepts : Accepts held names given.inst.tables given.initial.items (from_in given)
  pub initial_fits : IsAssignment given.inst.tables given.initial.items
  pub from_fits : IsAssignment given.inst.tables (from_in given)
  pub begins : names.changed ≡ None → from_in given ≡ given.initial.items

-- both lists are feasible from the initial one, and these are the parts of their costs
pub record AreFeasible (i : Tables) (a0 from : List Machine) (costs : Costs) : Type 0 where
  pub start : Feasible i a0 a0
  pub begun : Feasible i a0 from
  pub start_parts : costs.start ≡ parts_of i a0 a0
  pub from_parts : costs.from ≡ parts_of i a0 from

-- the text of what a search has found that began at `from`
abbrev pub text_of : Tables → List Machine → Found → List ℕ
text_of i a0 found =
    annealed_text found.parts (pinned_bound_of i a0).total found.told.heat found.told.tries
    found.told.done found.best.items found.last.items

-- both lists are feasible, and the text of what a search has found that began at `from` was sent
pub record IsAnnealed (i : Tables) (a0 from : List Machine) (sent : List ℕ → Type 0) : Type 0 where
  pub start : Feasible i a0 a0
  pub begun : Feasible i a0 from
  pub found : Found
  pub is : IsFound i a0 from found
  pub text : sent (text_of i a0 found)
