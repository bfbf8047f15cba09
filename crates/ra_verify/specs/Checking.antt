-- A journal that is built from the lines of a report, with a replica for each worker.
use Rattle.std.specs.Prelude.{◌≡◌, ℕ, ◌<◌, ◌≤◌, Bool, true, false, List, [], ◌∷◌, ◌++◌, length}
use Rattle.ra_draws.specs.declared.budgets.Lots.{Lots}
use Rattle.ra_journal.specs.declared.entries.Entry.{Entry}
use Rattle.ra_journal.specs.declared.replies.Reply.TheVariants.{Recorded, Stale}
use Rattle.ra_journal.specs.Entries.{entry_at, worker_count}
use Rattle.ra_journal.specs.Legal.{Legal}
use Rattle.ra_journal.specs.Journals.{opening_in, IsOverSame}
use Rattle.ra_report.specs.JournalTexts.{entry_line}
use Rattle.ra_worker.specs.declared.events.CoreReply.{CoreReply}
use Rattle.ra_worker.specs.declared.events.CoreReply.TheVariants.{Took, Answer, Skipped}
use Rattle.ra_worker.specs.Core.{Core, core_place_of}
use Rattle.ra_worker.specs.AllReplicas.{core_of}
use Rattle.ra_verify.specs.declared.checker.Checker.{Checker}

-- place q is after all entries of worker w
pub record IsBehind (h : List Entry) (w q : ℕ) : Type 0 where
  pub seen : (j : ℕ) → j < length h → (entry_at h j).worker ≡ w → j < q

-- no replica has gone past a place at which its worker may have planned its next proposal
pub record NoneIsPast (l : Lots) (h : List Entry) (c : Core) : Type 0 where
  pub each : (w q : ℕ) → w < worker_count l → IsBehind h w q → core_place_of c w ≤ q

-- the entries of a checker, and its core
abbrev pub checker_entries : Checker → List Entry
checker_entries c = c.journal.entries

abbrev pub checker_core : Checker → Core
checker_core c = core_of c.journal.entries c.replicas.items

-- a checker can take entries in
abbrev pub IsOpen : Checker → Type 0
IsOpen c = NoneIsPast c.journal.lots (checker_entries c) (checker_core c)

-- entry e may follow the entries of a checker
abbrev pub MayFollow : Checker → Entry → Type 0
MayFollow c e =
    Legal (opening_in c.journal)
    (checker_entries c ++ e ∷ [])

-- a checker has taken in an entry that may follow, and can take in the next
pub record HasTakenEntry (before after : Checker) (e : Entry) : Type 0 where
  pub entries : checker_entries after ≡ checker_entries before ++ e ∷ []
  pub legal : MayFollow before e
  pub ready : IsOpen after

-- a checker has taken in some entry
pub record HasTakenSomeEntry (before after : Checker) : Type 0 where
  pub entry : Entry
  pub taken : HasTakenEntry before after entry

-- the journals of two checkers are over the same
abbrev pub IsSameRun : Checker → Checker → Type 0
IsSameRun before after = IsOverSame before.journal after.journal

-- a checker has taken in an entry whose line this is
pub record HasTakenLine (before after : Checker) (line : List ℕ) : Type 0 where
  pub entry : Entry
  pub taken : HasTakenEntry before after entry
  pub text : line ≡ entry_line (length (checker_entries before)) entry

-- a worker exists, and its replica hasn't gone past a place of the journal
pub record MayStand (c : Checker) (w q : ℕ) : Type 0 where
  pub worker : w < worker_count c.journal.lots
  pub place : q ≤ length (checker_entries c)
  pub ahead : core_place_of (checker_core c) w ≤ q

-- a proposal was recorded
unfoldable pub is_recorded : CoreReply → Bool
is_recorded (Took count) = false
is_recorded (Answer (Recorded at verdict)) = true
is_recorded (Answer (Stale guard at)) = false
is_recorded Skipped = false
