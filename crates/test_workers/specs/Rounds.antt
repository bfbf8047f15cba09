-- What workers do that take their turns in rounds.
use Rattle.std.specs.Prelude.{◌≡◌, ℕ, ◌<◌, ◌≤◌, min, List}
use Rattle.ra_draws.specs.declared.budgets.Lots.{Lots}
use Rattle.ra_journal.specs.declared.entries.Entry.{Entry}
use Rattle.ra_journal.specs.Committing.{next_number}
use Rattle.ra_journal.specs.Entries.{worker_count, budget}
use Rattle.ra_journal.specs.Journals.{History, opening_in, IsJournal, IsOverSame}
use Rattle.ra_journal.specs.Openings.{Opening}
use Rattle.ra_worker.specs.Replicas.{Progress}
use Rattle.ra_worker.specs.declared.events.CoreEvent.{CoreEvent}
use Rattle.ra_worker.specs.Core.{Core, AreNamed, run}
use Rattle.ra_worker.specs.Turns.{StandIn, core_in}

-- each of the first n workers has r entries, or all of its budget if that is less
pub record HaveMade (l : Lots) (h : List Entry) (n r : ℕ) : Type 0 where
  pub each : (w : ℕ) → w < n → min r (budget l w) ≤ next_number h w

-- each worker of a journal has r entries, or all of its budget if that is less
abbrev pub HaveAllMade : History → ℕ → Type 0
HaveAllMade j r = HaveMade j.lots j.entries (worker_count j.lots) r

-- a core is what some turns of existing workers make of another
pub record IsPlayed (o : Opening) (before after : Core) : Type 0 where
  pub events : List CoreEvent
  pub named : AreNamed o.lots events
  pub last : after ≡ (run o before events).last

-- a journal with the replicas of its workers is what some turns make of another
pub record PlaysOn (old new : History) (before after : List Progress) : Type 0 where
  pub played :
      IsPlayed (opening_in old) (core_in old before)
      (core_in new after)
  pub at : StandIn new after
  pub over : IsOverSame old new
  pub sound : IsJournal old → IsJournal new
