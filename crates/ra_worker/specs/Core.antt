-- The core of a run: its journal, and for each worker the place up to which it has taken the journal in. The workers
-- take their turns in any order.
use Rattle.std.specs.Prelude.{◌≡◌, ℕ, zero, suc, ◌+◌, ◌-◌, ◌<◌, ◌≤◌, min, if◌then◌else◌, List, [], ◌∷◌, ◌++◌, length, slice_index, slice_index_or, slice_set}
use Rattle.ra_draws.specs.declared.budgets.Lots.{Lots}
use Rattle.ra_journal.specs.declared.entries.Entry.{Entry}
use Rattle.ra_journal.specs.Committing.{committed, Committed}
use Rattle.ra_journal.specs.Entries.{worker_count}
use Rattle.ra_journal.specs.Openings.{Opening}
use Rattle.ra_worker.specs.Skipping.{is_skipped}
use Rattle.ra_worker.specs.declared.events.CoreEvent.{CoreEvent}
use Rattle.ra_worker.specs.declared.events.CoreEvent.TheVariants.{CatchUp, Commit}
use Rattle.ra_worker.specs.declared.events.CoreReply.{CoreReply}
use Rattle.ra_worker.specs.declared.events.CoreReply.TheVariants.{Took, Answer, Skipped}

-- a core: a journal, and a place for each worker
pub record Core : Type 0 where
  pub journal : List Entry
  pub places : List ℕ

unfoldable pub core_place_of : Core → ℕ → ℕ
core_place_of c w = slice_index c.places w

-- each place is at most the length of the journal
pub record ArePlacesInJournal (l : Lots) (c : Core) : Type 0 where
  pub one_each : length c.places ≡ worker_count l
  pub each : (w : ℕ) → w < worker_count l → core_place_of c w ≤ length c.journal

-- a journal after a worker's turn, and the reply
pub record Turn : Type 0 where
  pub journal : List Entry
  pub reply : CoreReply

-- the turn after an answer to a worker
unfoldable pub answered : Committed → Turn
answered done = record { journal = done.journal; reply = Answer done.reply }

-- worker w hands in its next proposal, planned at place q, unless it is skipped
unfoldable pub turn : Opening → List Entry → ℕ → ℕ → Turn
turn o h w q =
    if is_skipped o.lots h w q then record { journal = h; reply = Skipped }
    else answered (committed o h w q)

-- the core after an event, and the reply
pub record Stepped : Type 0 where
  pub after : Core
  pub reply : CoreReply

-- worker w takes in the entries from its place on, at most 1,024 of them
unfoldable pub caught_up : Core → ℕ → Stepped
caught_up c w =
    let n = min 1024 (length c.journal - core_place_of c w) in
    record {
      after = record { journal = c.journal; places = slice_set c.places w (core_place_of c w + n) };
      reply = Took n;
    }

-- worker w hands in a proposal that is planned at its place, and no place changes
unfoldable pub handed_in : Opening → Core → ℕ → Stepped
handed_in o c w =
    let t = turn o c.journal w (core_place_of c w) in
    record { after = record { journal = t.journal; places = c.places }; reply = t.reply }

-- the core and the reply after one event
unfoldable pub step : Opening → Core → CoreEvent → Stepped
step o c (CatchUp w) = caught_up c w
step o c (Commit w) = handed_in o c w

-- event n of a list
unfoldable pub event_at : List CoreEvent → ℕ → CoreEvent
event_at events n = slice_index_or events n (CatchUp 0)

-- the core after the first n events
unfoldable pub core_after : Opening → Core → List CoreEvent → ℕ → Core
core_after o c events zero = c
core_after o c events (suc n) =
    (step o (core_after o c events n) (event_at events n)).after

-- the replies to the first n events
unfoldable pub core_replies_to : Opening → Core → List CoreEvent → ℕ
    → List CoreReply
core_replies_to o c events zero = []
core_replies_to o c events (suc n) =
    core_replies_to o c events n
    ++ (step o (core_after o c events n) (event_at events n)).reply ∷ []

-- the run of a list of events: the last core, and one reply for each event
pub record Ran : Type 0 where
  pub last : Core
  pub replies : List CoreReply

unfoldable pub run : Opening → Core → List CoreEvent → Ran
run o c events =
    record {
      last = core_after o c events (length events);
      replies = core_replies_to o c events (length events);
    }

-- the worker of an event
unfoldable pub worker_of_event : CoreEvent → ℕ
worker_of_event (CatchUp w) = w
worker_of_event (Commit w) = w

-- each event of a list names an existing worker
pub record AreNamed (l : Lots) (events : List CoreEvent) : Type 0 where
  pub each : (n : ℕ) → n < length events → worker_of_event (event_at events n) < worker_count l
