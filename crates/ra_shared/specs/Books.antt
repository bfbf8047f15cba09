-- A journal as the value that a lock protects.
use Rattle.std.specs.Prelude.{◌≡◌, ℕ, Bool, List}
use Rattle.ra_moves.specs.declared.verdicts.Plan.{Plan}
use Rattle.ra_journal.specs.declared.entries.Entry.{Entry}
use Rattle.ra_journal.specs.Committing.{committed, Committed, IsCommit}
use Rattle.ra_journal.specs.Entries.{made_by}
use Rattle.ra_journal.specs.Journals.{History}
use Rattle.ra_journal.specs.Keeping.{IsStart}
use Rattle.ra_journal.specs.Legal.{Legal}
use Rattle.ra_journal.specs.Openings.{Opening, opening}
use Rattle.ra_turn.specs.Notes.{by}
use Rattle.ra_shared.specs.declared.books.Book.{Book}
use Rattle.ra_shared.specs.declared.books.Opened.{Opened}
use Rattle.ra_shared.specs.Numbers.{touches_number}

-- what a journal was opened with
abbrev pub opening_of_journal : History → Opened
opening_of_journal j = record { inst = j.instance; a0 = j.initial; lots = j.lots }

abbrev pub opened_by : Book → Opened
opened_by b = opening_of_journal b.journal.value

-- the same as the value that a run begins with
abbrev pub opening_by : Opened → Opening
opening_by o = opening o.inst.tables o.a0.items o.lots

-- the entries of the journal
abbrev pub notes_in : Book → List Entry
notes_in b = b.journal.value.entries

-- the entry touches the guard with this number; from the guard count on there is no guard
abbrev pub entry_touches : Opened → Entry → ℕ → Bool
entry_touches o e n = touches_number o.inst.tables (made_by e) n

-- a worker's own entries in a history are those that it has made
abbrev pub KnowsOwn : ℕ → List Entry → List Entry → Type 0
KnowsOwn w h mine = by (λ (e : Entry). e.worker) w h ≡ mine

-- the initial assignment is one of the instance, and breaks nothing
abbrev pub IsStartOf : Opened → Type 0
IsStartOf o = IsStart (opening_by o)

-- the entries are a legal journal
abbrev pub IsLegalSeen : Opened → List Entry → Type 0
IsLegalSeen o h = Legal (opening_by o) h

-- worker w may hand in this plan after the entries
abbrev pub IsCommitOf : Opened → List Entry → ℕ → Plan → Type 0
IsCommitOf o h w plan = IsCommit (opening_by o) h w plan

-- worker w hands in its next proposal, planned at the state of place q
abbrev pub committed_in : Opened → List Entry → ℕ → ℕ → Committed
committed_in o h w q = committed (opening_by o) h w q
