-- The turns of workers with a journal, whose replicas are at its states.
use Rattle.std.specs.Prelude.{◌≡◌, ℕ, List}
use Rattle.ra_journal.specs.Journals.{History, opening_in, IsJournal}
use Rattle.ra_worker.specs.Replicas.{Progress, IsAt}
use Rattle.ra_worker.specs.declared.events.CoreReply.{CoreReply}
use Rattle.ra_worker.specs.Core.{Core, Turn, turn}
use Rattle.ra_worker.specs.AllReplicas.{AreAt, core_of}

-- a replica is at a state of a journal, and so is each of the replicas of its workers, one for each in order
abbrev pub StandsInJournal : History → Progress → Type 0
StandsInJournal j r = IsAt (opening_in j) j.entries r

abbrev pub StandIn : History → List Progress → Type 0
StandIn j rs = AreAt (opening_in j) j.entries rs

-- the core that consists of a journal and the replicas' places
abbrev pub core_in : History → List Progress → Core
core_in j rs = core_of j.entries rs

-- what a journal becomes and replies, if worker w takes its turn with a proposal that is planned at place q
abbrev pub turn_in : History → ℕ → ℕ → Turn
turn_in j w q = turn (opening_in j) j.entries w q

-- worker w has taken its turn with a journal: at most its entries changed, and it stays legal
pub record TakesTurn (old new : History) (w q : ℕ) (said : CoreReply) : Type 0 where
  pub journal : new ≡ record old { entries = (turn_in old w q).journal }
  pub reply : said ≡ (turn_in old w q).reply
  pub sound : IsJournal old → IsJournal new
