-- What holds of guards' numbers in every history, and of the answers to a worker, each proved by a function of
-- `ra_laws`.
use Rattle.std.specs.Prelude.{◌≡◌, ◌≢◌, ℕ, ◌+◌, ◌<◌, ◌≤◌, true, false, List, [], ◌∷◌, ◌++◌, length, Option}
use Rattle.ra_base.specs.declared.ids.Guard.{Guard}
use Rattle.ra_model.specs.declared.raw.Tables.{Tables}
use Rattle.ra_moves.specs.declared.steps.Step.{Step}
use Rattle.ra_moves.specs.declared.verdicts.Plan.{Plan}
use Rattle.ra_moves.specs.declared.verdicts.Verdict.{Verdict}
use Rattle.ra_guards.specs.Guards.{is_guard}
use Rattle.ra_guards.specs.Order.{IsKnown}
use Rattle.ra_guards.specs.Versions.{touches}
use Rattle.ra_journal.specs.declared.entries.Entry.{Entry}
use Rattle.ra_journal.specs.declared.replies.Reply.TheVariants.{Recorded, Stale}
use Rattle.ra_journal.specs.Entries.{entry_at, made_by}
use Rattle.ra_shared.specs.declared.books.Opened.{Opened}
use Rattle.ra_shared.specs.Books.{KnowsOwn, IsCommitOf}
use Rattle.ra_shared.specs.Numbers.{guard_count, number_of_guard, touches_number}
use Rattle.ra_shared.specs.Shares.{IsCommitted}

-- an entry touches a guard exactly if it touches the guard's number
abbrev pub TouchesAgree : Type 0
TouchesAgree =
    (i : Tables) (made : Option (List Step)) (g : Guard) → IsKnown i g
    → touches_number i made (number_of_guard i g) ≡ touches i made g

-- from the guard count on no number is touched
abbrev pub NoneAbove : Type 0
NoneAbove =
    (i : Tables) (made : Option (List Step)) (n : ℕ) → guard_count i ≤ n
    → touches_number i made n ≡ false

-- the plan is recorded at place j with this verdict: its entry is the last one that the worker has now seen, and the
-- worker has made this entry as well
pub record IsRecorded (w : ℕ) (plan : Plan) (mine seen' mine' : List Entry) (j : ℕ)
    (verdict : Verdict) : Type 0 where
  pub last : length seen' ≡ j + 1
  pub worker : (entry_at seen' j).worker ≡ w
  pub k : (entry_at seen' j).k ≡ plan.k
  pub q : (entry_at seen' j).q ≡ plan.q
  pub mv : (entry_at seen' j).mv ≡ plan.mv
  pub judged : (entry_at seen' j).verdict ≡ verdict
  pub made : mine' ≡ mine ++ entry_at seen' j ∷ []

-- the plan is stale because of a guard of its move, which another worker's entry at this place has touched since it was
-- planned; nothing was made
pub record IsStale (o : Opened) (w : ℕ) (plan : Plan) (mine seen' mine' : List Entry)
    (guard : Guard) (at : ℕ) : Type 0 where
  pub made : mine' ≡ mine
  pub guarded : is_guard o.inst.tables plan.mv.steps guard ≡ true
  pub from : plan.q ≤ at
  pub within : at < length seen'
  pub touched : touches o.inst.tables (made_by (entry_at seen' at)) guard ≡ true
  pub other : (entry_at seen' at).worker ≢ w

-- what a worker knows if it is answered Recorded
abbrev pub RecordedStands : Type 0
RecordedStands =
    (o : Opened) (w : ℕ) (plan : Plan) (seen mine seen' mine' : List Entry) (j : ℕ)
    (verdict : Verdict)
    → KnowsOwn w seen mine → IsCommitOf o seen w plan
    → IsCommitted o w plan.q seen mine seen' mine' (Recorded j verdict)
    → IsRecorded w plan mine seen' mine' j verdict

-- what a worker knows if it is answered Stale
abbrev pub StaleStands : Type 0
StaleStands =
    (o : Opened) (w : ℕ) (plan : Plan) (seen mine seen' mine' : List Entry) (guard : Guard)
    (at : ℕ)
    → KnowsOwn w seen mine → IsCommitOf o seen w plan
    → IsCommitted o w plan.q seen mine seen' mine' (Stale guard at)
    → IsStale o w plan mine seen' mine' guard at
