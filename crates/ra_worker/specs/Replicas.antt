-- What a contract sees of a replica of a worker, which represents a state of a journal. It keeps no journal.
use Rattle.std.specs.Prelude.{◌≡◌, ℕ, ◌+◌, ◌<◌, ◌≤◌, ◌==◌, List, length}
use Rattle.ra_base.specs.Sums.{one_if}
use Rattle.ra_draws.specs.declared.budgets.Lots.{Lots}
use Rattle.ra_draws.specs.Shown.{drawing_in}
use Rattle.ra_model.specs.Situations.{Situation, situation}
use Rattle.ra_moves.specs.declared.verdicts.Plan.{Plan}
use Rattle.ra_moves.specs.Options.{plan_of}
use Rattle.ra_moves.specs.Weighing.{weighed_of}
use Rattle.ra_journal.specs.declared.entries.Entry.{Entry}
use Rattle.ra_journal.specs.Entries.{entry_at, entries_of, budget, words, allowed, made_by}
use Rattle.ra_journal.specs.Legal.{Legal}
use Rattle.ra_journal.specs.Quiet.{AreRefused}
use Rattle.ra_journal.specs.States.{state, after_made}
use Rattle.ra_journal.specs.Openings.{Opening, opening}

-- how far a worker has got: the situation that its replica represents, the lots of the workers, the worker, the number
-- of its next proposal, and how many entries of the journal the replica has taken in
pub record Progress : Type 0 where
  pub world : Situation
  pub lots : Lots
  pub worker : ℕ
  pub next : ℕ
  pub place : ℕ

abbrev pub progress : Situation → Lots → ℕ → ℕ → ℕ → Progress
progress st l w k q = record { world = st; lots = l; worker = w; next = k; place = q }

-- its instance's tables, its initial assignment and its lots as one
abbrev pub opening_at : Progress → Opening
opening_at r = opening r.world.tables r.world.start r.lots

-- how many proposals its worker makes in all
abbrev pub budget_at : Progress → ℕ
budget_at r = budget r.lots r.worker

-- where the replica of a worker begins: at the initial assignment, before its first proposal, and at place 0
abbrev pub beginning : Opening → ℕ → Progress
beginning o w = progress (situation o.tables o.start o.start) o.lots w 0 0

-- the plan of a proposal of its worker, made at its place for the words and the allowance of this proposal
pub record IsPlanAt (r : Progress) (k : ℕ) (plan : Plan) : Type 0 where
  pub place : plan.q ≡ r.place
  pub number : plan.k ≡ k
  pub planned :
      plan.mv ≡ plan_of r.world (words r.lots r.worker k) (drawing_in r.lots)
      (allowed r.lots r.worker k)
  pub weighed : plan.weighed ≡ weighed_of r.world plan.mv.steps

-- the plan of its worker's next proposal
abbrev pub IsNextPlan : Progress → Plan → Type 0
IsNextPlan r = IsPlanAt r r.next

-- a replica that has taken in one entry more: its place is one higher, and so is its worker's number if the entry is
-- that worker's
abbrev pub followed : Progress → Entry → Progress
followed r e = record r {
  world = record r.world { here = after_made r.world.here (made_by e) };
  next = r.next + one_if (e.worker == r.worker);
  place = r.place + 1;
}

-- a replica is at a state of a journal: it is of the same instance, initial assignment and lots, its assignment is the
-- state at its place, and its worker has made as many proposals as it has entries before that
pub record IsAt (o : Opening) (h : List Entry) (r : Progress) : Type 0 where
  pub opening : opening_at r ≡ o
  pub place : r.place ≤ length h
  pub state : r.world.here ≡ state o.start h r.place
  pub number : r.next ≡ entries_of h r.place r.worker

-- entries are consecutive entries of a journal from a place on
pub record ArePartOf (h : List Entry) (at : ℕ) (entries : List Entry) : Type 0 where
  pub within : at + length entries ≤ length h
  pub each : (j : ℕ) → j < length entries → entry_at entries j ≡ entry_at h (at + j)

-- a replica is at a state of a legal journal, and entries are that journal's from its place on
pub record AreNextEntries (r : Progress) (entries h : List Entry) : Type 0 where
  pub legal : Legal (opening_at r) h
  pub here : IsAt (opening_at r) h r
  pub part : ArePartOf h r.place entries

-- they are the next entries of some journal
pub record AreNextOfSomeJournal (r : Progress) (entries : List Entry) : Type 0 where
  pub journal : List Entry
  pub next : AreNextEntries r entries journal

-- a replica has taken in the first n of these entries: its place has grown by n, and it is at a state of each legal
-- journal whose next entries they are
pub record HasTaken (before after : Progress) (entries : List Entry) (n : ℕ) : Type 0 where
  pub opening : opening_at after ≡ opening_at before
  pub worker : after.worker ≡ before.worker
  pub place : after.place ≡ before.place + n
  pub at : (h : List Entry) → AreNextEntries before entries h
      → IsAt (opening_at before) h after

-- a replica is at a state of a journal; the journal's entries from the replica's place on, before another place, are
-- refused; one of these is its worker's
pub record ArePassed (r : Progress) (to : ℕ) (h : List Entry) : Type 0 where
  pub here : IsAt (opening_at r) h r
  pub from : r.place ≤ to
  pub within : to ≤ length h
  pub refused : AreRefused h r.place to
  pub own : entries_of h to r.worker ≡ r.next + 1

-- a replica has skipped the entries before a place: one of them was its worker's proposal, nothing else has changed, and
-- it is at a state of each journal that allowed this
pub record HasPassed (before after : Progress) (to : ℕ) : Type 0 where
  pub passed : after ≡ record before { next = before.next + 1; place = to }
  pub at : (h : List Entry) → ArePassed before to h → IsAt (opening_at before) h after
