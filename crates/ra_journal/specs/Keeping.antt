-- What a journal keeps in addition to its entries, and that it is what the definitions give.
use Rattle.std.specs.Prelude.{◌≡◌, ℕ, ◌<◌, List, length, None, slice_index}
use Rattle.ra_draws.specs.declared.budgets.Lots.{Lots}
use Rattle.ra_model.specs.Limits.{WellFormed}
use Rattle.ra_model.specs.Assignments.{IsAssignment}
use Rattle.ra_model.specs.Broken.{first_broken}
use Rattle.ra_topology.specs.Fits.{IsTopologyOf}
use Rattle.ra_topology.specs.TopologyLists.{TopologyLists}
use Rattle.ra_moves.specs.SettledNow.{AreMovedOf}
use Rattle.ra_guards.specs.Kept.{AreVersions}
use Rattle.ra_journal.specs.declared.book.Book.{Book}
use Rattle.ra_journal.specs.declared.entries.Entry.{Entry}
use Rattle.ra_journal.specs.Entries.{made_in, entries_of, worker_count, proposal_count}
use Rattle.ra_journal.specs.States.{kept_cost, cost_of_state, state_at}
use Rattle.ra_journal.specs.Best.{best_of}
use Rattle.ra_journal.specs.Legal.{Legal}
use Rattle.ra_journal.specs.Openings.{Opening}
use Rattle.ra_journal.specs.Quiet.{IsAfterDone}

-- the initial list is an assignment of a well formed instance, and breaks nothing
pub record IsStart (o : Opening) : Type 0 where
  pub limits : WellFormed o.tables
  pub fits : IsAssignment o.tables o.start
  pub unbroken : first_broken o.tables o.start o.start ≡ None

-- a list says, in its first places, how many entries each worker has made
pub record AreMadeBy (l : Lots) (h : List Entry) (made : List ℕ) : Type 0 where
  pub long : length made ≡ 16
  pub each : (w : ℕ) → w < worker_count l → slice_index made w ≡ entries_of h (length h) w

-- a book: its entries are a legal journal with room for all proposals, and all that it keeps is right for that journal
pub record IsKept (o : Opening) (book : Book) : Type 0 where
  pub legal : Legal o book.entries.items
  pub room : book.entries.room ≡ proposal_count o.lots
  pub versions :
      AreVersions o.tables (made_in book.entries.items) (length book.entries.items) book.versions
  pub moved :
      AreMovedOf (state_at o book.entries.items (length book.entries.items))
      book.greatest
  pub made : AreMadeBy o.lots book.entries.items book.made
  pub cost : book.kept ≡ kept_cost o book.entries.items (length book.entries.items)
  pub best_at : book.best_at ≡ best_of o book.entries.items
  pub best_cost : book.best_cost ≡ cost_of_state o book.entries.items book.best_at
  pub done : IsAfterDone book.entries.items book.done

-- all that a journal has: its topology is that of its instance, and its book keeps what it is to keep
pub record IsKeptJournal (o : Opening) (topo : TopologyLists) (book : Book) : Type 0 where
  pub topology : IsTopologyOf topo o.tables
  pub start : IsStart o
  pub kept : IsKept o book
