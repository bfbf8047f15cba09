-- A journal that workers share, and their passes.
use Rattle.std.specs.Prelude.{◌≡◌, ℕ, ◌+◌, ◌<◌, List, [], ◌++◌, length, drop}
use mathlib.Core.List.{IsPrefix}
use Rattle.ra_moves.specs.declared.verdicts.Plan.{Plan}
use Rattle.ra_journal.specs.declared.entries.Entry.{Entry}
use Rattle.ra_journal.specs.declared.replies.Reply.{Reply}
use Rattle.ra_turn.specs.declared.pass.Pass.{Pass}
use Rattle.ra_turn.specs.declared.story.Story.{Ghosts}
use Rattle.ra_turn.specs.Passes.{opening_of, seen_by, notes_made_by, grips_of, IsReady, Shut}
use Rattle.ra_shared.specs.declared.books.Book.{Book}
use Rattle.ra_shared.specs.declared.books.Opened.{Opened}
use Rattle.ra_shared.specs.declared.shared.Shared.{Shared}
use Rattle.ra_shared.specs.Books.{opened_by, committed_in, KnowsOwn, IsLegalSeen, IsCommitOf}

-- what the journal was opened with
abbrev pub start_of : Shared → Opened
start_of s = opening_of opened_by s.turn

module _ {g : Ghosts Book Entry Opened} where
  -- the worker whose pass it is, and how many turns it has left
  abbrev pub worker_of : Pass Book Entry Opened g → ℕ
  worker_of p = p.number

  abbrev pub turns_left : Pass Book Entry Opened g → ℕ
  turns_left p = p.left

  -- no other worker's entry touches a guard that the pass has locked
  abbrev pub ShutsOut : Shared → Pass Book Entry Opened g → Type 0
  ShutsOut s p = Shut s.turn p

  -- the pass p becomes q in one turn
  abbrev pub HasTakenTurn : Pass Book Entry Opened g → Pass Book Entry Opened g → Type 0
  HasTakenTurn p q = (worker_of q ≡ worker_of p) × (turns_left q + 1 ≡ turns_left p)

  -- A pass of these between two calls: it is outside its turns and has no guard locked, it knows which entries it has
  -- made, and what it has seen is a legal journal
  pub record IsAtRest (s : Shared) (p : Pass Book Entry Opened g) : Type 0 where
    pub ready : IsReady s.turn p
    pub free : grips_of p ≡ []
    pub own : KnowsOwn p.number (seen_by p) (notes_made_by p)
    pub legal : IsLegalSeen (start_of s) (seen_by p)

  -- the pass n as `Shared::make` gives it
  pub record IsNew (s : Shared) (n : ℕ) (p : Pass Book Entry Opened g) : Type 0 where
    pub rest : IsAtRest s p
    pub number : p.number ≡ n
    pub left : p.left ≡ 4000000
    pub seen : seen_by p ≡ []
    pub made : notes_made_by p ≡ []

  -- the pass n as `Shared::close` needs it
  pub record IsLast (s : Shared) (n : ℕ) (p : Pass Book Entry Opened g) : Type 0 where
    pub rest : IsAtRest s p
    pub number : p.number ≡ n

-- Worker w, which had seen and made these entries, has handed in its next proposal, planned at place q: there was a
-- history with all entries that it had made, and this is the answer to it. The worker has now seen what the history
-- became, and has made what was added
pub record IsCommitted (o : Opened) (w q : ℕ) (seen mine seen' mine' : List Entry) (reply : Reply)
    : Type 0 where
  pub history : List Entry
  pub later : IsPrefix seen history
  pub own : KnowsOwn w history mine
  pub legal : IsLegalSeen o history
  pub journal : seen' ≡ (committed_in o history w q).journal
  pub answer : reply ≡ (committed_in o history w q).reply
  pub made : mine' ≡ mine ++ drop (length history) seen'

module _ {g : Ghosts Book Entry Opened} where
  -- a pass at rest, with a turn left, may hand in this plan
  pub record PassMayCommit (s : Shared) (plan : Plan) (p : Pass Book Entry Opened g) : Type 0 where
    pub rest : IsAtRest s p
    pub left : 0 < turns_left p
    pub commit : IsCommitOf (start_of s) (seen_by p) (worker_of p) plan

  -- the pass p, now q and at rest again, has handed in the plan in one turn, and was given this answer
  pub record HasCommitted (s : Shared) (plan : Plan) (p q : Pass Book Entry Opened g)
      (reply : Reply) : Type 0 where
    pub rest : IsAtRest s q
    pub turn : HasTakenTurn p q
    pub seen : IsPrefix (seen_by p) (seen_by q)
    pub committed :
        IsCommitted (start_of s) (worker_of p) plan.q (seen_by p) (notes_made_by p) (seen_by q)
        (notes_made_by q) reply
