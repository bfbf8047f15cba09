-- One step of a worker after another: it hands in its next plan, and catches up.
use Rattle.std.proofs.Common.{◌≡◌, ℕ, ◌+◌, ◌<◌, ◌≤◌, false, List, length, refl, sym, ap, ◌∙◌, subst, le-ltb, arith}
use Rattle.std.proofs.lemmas.Bool.{or_from, lt-leb}
use mathlib.Core.List.{IsPrefix}
use Rattle.ra_draws.specs.declared.budgets.Lots.{Lots}
use Rattle.ra_moves.specs.declared.verdicts.Plan.{Plan}
use Rattle.ra_journal.specs.declared.entries.Entry.{Entry}
use Rattle.ra_journal.specs.declared.replies.Reply.{Reply}
use Rattle.ra_journal.specs.declared.replies.Reply.TheVariants.{Recorded, Stale}
use Rattle.ra_journal.specs.Batches.{batch_from}
use Rattle.ra_journal.specs.Committing.{next_number, IsCommit}
use Rattle.ra_journal.specs.Entries.{entries_of, budget, proposal_count}
use Rattle.ra_journal.specs.Openings.{Opening}
use Rattle.ra_journal.proofs.RoomLemmas.{AreNumbered, entries_fewer}
use Rattle.ra_turn.specs.Passes.{seen_by, notes_made_by}
use Rattle.ra_shared.specs.declared.books.Opened.{Opened}
use Rattle.ra_shared.specs.declared.shared.Shared.{Shared}
use Rattle.ra_shared.specs.Books.{KnowsOwn, IsLegalSeen, IsCommitOf, opening_by}
use Rattle.ra_shared.specs.Laws.{IsRecorded, IsStale}
use Rattle.ra_shared.specs.Shares.{start_of, IsCommitted, IsAtRest}
use Rattle.ra_shared.proofs.Handing.{recorded_stands, stale_stands}
use Rattle.ra_worker.specs.Skipping.{has_used, is_behind, is_skipped}
use Rattle.ra_worker.specs.Replicas.{Progress, IsNextPlan, AreNextOfSomeJournal, HasTaken}
use Rattle.ra_worker.proofs.TurnLemmas.{may_commit, some_budget, batch_next, batch_long, taken_at}
use Rattle.ra_worker.specs.declared.worker.Worker.{Worker}
use Rattle.ra_worker.specs.Working.{IsAtWork, HasOwn, HasTurnsToSpare, IsAtOrAfterOwn, HasTurned, HasMovedOn, MayGoOn, shown_in}
use Rattle.ra_worker.proofs.Seen.{legal_few, prefix_long, prefix_at, prefix_entries, entries_grow, own_count}

-- a worker that has some budget left, and all its entries before a place, isn't skipped there
not_skipped : (l : Lots) (h : List Entry) (w q : ℕ) → entries_of h (length h) w < budget l w →
    entries_of h (length h) w ≤ entries_of h q w → is_skipped l h w q ≡ false
unfolding is_skipped has_used is_behind next_number
not_skipped l h w q left all = or_from (has_used l h w) (is_behind h w q) (lt-leb _ _ left) (le-ltb _ _ all)

-- the entry that an answer shows
record IsShown (n q : ℕ) (seen mine : List Entry) (shown : ℕ) : Type 0 where
  within : shown < length seen
  later : q ≤ shown
  own : entries_of seen (shown + 1) n ≡ length mine

module _ (o : Opened) (n : ℕ) (plan : Plan) where
  shown_recorded : (mine seen' mine' : List Entry) (j : ℕ) (e : _) →
      IsLegalSeen o seen' → KnowsOwn n seen' mine' → IsRecorded n plan mine seen' mine' j e →
      IsShown n plan.q seen' mine' j
  shown_recorded mine seen' mine' j e legal knows is = record {
    within = omega (arith, is.last);
    later = omega (arith, (legal.each j (omega (arith, is.last))).placed.place, is.q);
    own = subst (λ k. entries_of seen' k n ≡ length mine') is.last (own_count seen' mine' n knows);
  }

  shown_stale : (seen mine seen' mine' : List Entry) (guard : _) (at : ℕ) →
      IsPrefix seen seen' → plan.q ≤ length seen → entries_of seen plan.q n ≡ length mine → KnowsOwn n seen' mine' →
      IsStale o n plan mine seen' mine' guard at → IsShown n plan.q seen' mine' at
  shown_stale seen mine seen' mine' guard at prefix place all knows is = record {
    within = is.within;
    later = is.from;
    own = omega (
      arith,
      prefix_entries seen seen' plan.q n prefix place,
      all,
      entries_grow seen' plan.q (at + 1) n (omega (arith, is.from)),
      entries_grow seen' (at + 1) (length seen') n (omega (arith, is.within)),
      own_count seen' mine' n knows,
      ap (λ (x : List Entry). length x) is.made,
    );
  }

  shown_by_answer : (seen mine seen' mine' : List Entry) (reply : Reply) →
      IsPrefix seen seen' → IsCommitOf o seen n plan → entries_of seen plan.q n ≡ length mine → KnowsOwn n seen mine →
      IsLegalSeen o seen' → KnowsOwn n seen' mine' → IsCommitted o n plan.q seen mine seen' mine' reply →
      IsShown n plan.q seen' mine' (shown_in reply)
  unfolding shown_in
  shown_by_answer seen mine seen' mine' (Recorded j verdict) prefix commit all knew legal knows done =
      shown_recorded mine seen' mine' j verdict legal knows
      (recorded_stands o n plan seen mine seen' mine' j verdict knew commit done)
  shown_by_answer seen mine seen' mine' (Stale guard at) prefix commit all knew legal knows done =
      shown_stale seen mine seen' mine' guard at prefix commit.place all knows
      (stale_stands o n plan seen mine seen' mine' guard at knew commit done)

module _ (s : Shared) (w : Worker) where
  -- all that it has made is counted by its replica
  counted : IsAtWork s w → HasOwn w →
      entries_of (seen_by w.pass) (length (seen_by w.pass)) w.replica.worker ≡ w.replica.next
  counted work own =
      rw work.same (own_count (seen_by w.pass) (notes_made_by w.pass) w.pass.number work.rest.own ∙ sym own.number)

  -- it may hand in its next plan
  pub next_commit : (plan : Plan) → IsAtWork s w → HasOwn w →
      w.replica.next < budget w.replica.lots w.replica.worker →
      IsNextPlan w.replica plan → IsCommitOf (start_of s) (seen_by w.pass) w.pass.number plan
  next_commit plan work own left next =
      let o = start_of s in
      let h = seen_by w.pass in
      let v = w.replica.worker in
      let within : w.replica.next < budget o.lots v =
      subst (λ (p : Opening). w.replica.next < budget p.lots v) work.at.opening left in
      let all : entries_of h (length h) v ≡ w.replica.next = counted work own in
      let free : is_skipped o.lots h v w.replica.place ≡ false =
      not_skipped o.lots h v w.replica.place (omega (arith, within, all)) (omega (arith, all, work.at.number)) in
      subst (λ n. IsCommit (opening_by o) h n plan) work.same
      (may_commit (opening_by o) h w.replica plan work.at free next.place next.number next.planned
      next.weighed)

  -- a worker that has handed in a plan
  pub work_handed : (w' : Worker) → IsAtWork s w → w'.replica ≡ w.replica → IsAtRest s w'.pass →
      w'.pass.number ≡ w.pass.number → IsPrefix (seen_by w.pass) (seen_by w'.pass) → IsAtWork s w'
  work_handed w' work same rest number prefix = record {
    rest = rest;
    same = rw same (work.same ∙ sym number);
    at = rw same (prefix_at (opening_by (start_of s)) (seen_by w.pass)
        (seen_by w'.pass) w.replica prefix work.at);
  }

  module _ (w' : Worker) (plan : Plan) (reply : Reply) where
    shown_handed : IsAtWork s w → HasOwn w →
        w.replica.next < budget w.replica.lots w.replica.worker →
        IsNextPlan w.replica plan → IsAtRest s w'.pass → w'.pass.number ≡ w.pass.number →
        IsPrefix (seen_by w.pass) (seen_by w'.pass) → IsCommitted (start_of s) w.pass.number plan.q (seen_by w.pass)
        (notes_made_by w.pass) (seen_by w'.pass) (notes_made_by w'.pass) reply →
        IsShown w.pass.number plan.q (seen_by w'.pass) (notes_made_by w'.pass) (shown_in reply)
    shown_handed work own left next rest number prefix done =
        let place : entries_of (seen_by w.pass) plan.q w.pass.number ≡ length (notes_made_by w.pass) =
        subst (λ q. entries_of (seen_by w.pass) q w.pass.number ≡ length (notes_made_by w.pass)) (sym next.place)
        (subst (λ v. entries_of (seen_by w.pass) w.replica.place v ≡ length (notes_made_by w.pass)) work.same
        (sym work.at.number ∙ own.number)) in
        let knows : KnowsOwn w.pass.number (seen_by w'.pass) (notes_made_by w'.pass) =
        subst (λ n. KnowsOwn n (seen_by w'.pass) (notes_made_by w'.pass)) number rest.own in
        shown_by_answer (start_of s) w.pass.number plan (seen_by w.pass) (notes_made_by w.pass) (seen_by w'.pass)
        (notes_made_by w'.pass) reply prefix (next_commit plan work own left next) place work.rest.own rest.legal knows
        done

    pub behind_handed : IsAtWork s w → HasOwn w →
        w.replica.next < budget w.replica.lots w.replica.worker →
        IsNextPlan w.replica plan → IsAtRest s w'.pass → w'.pass.number ≡ w.pass.number →
        IsPrefix (seen_by w.pass) (seen_by w'.pass) → IsCommitted (start_of s) w.pass.number plan.q (seen_by w.pass)
        (notes_made_by w.pass) (seen_by w'.pass) (notes_made_by w'.pass) reply → IsAtOrAfterOwn (shown_in reply) w'
    behind_handed work own left next rest number prefix done =
        let shown = shown_handed work own left next rest number prefix done in
        record {
          within = shown.within;
          own = subst (λ v. entries_of (seen_by w'.pass) (shown_in reply + 1) v ≡ length (notes_made_by w'.pass))
              (sym number)
              shown.own;
        }

    -- the entry that is shown is one that its replica had not taken in
    pub later_handed : IsAtWork s w → HasOwn w →
        w.replica.next < budget w.replica.lots w.replica.worker →
        IsNextPlan w.replica plan → IsAtRest s w'.pass → w'.pass.number ≡ w.pass.number →
        IsPrefix (seen_by w.pass) (seen_by w'.pass) → IsCommitted (start_of s) w.pass.number plan.q (seen_by w.pass)
        (notes_made_by w.pass) (seen_by w'.pass) (notes_made_by w'.pass) reply → w.replica.place ≤ shown_in reply
    later_handed work own left next rest number prefix done =
        omega (arith, (shown_handed work own left next rest number prefix done).later, next.place)

  -- turns are left for what it has seen and not taken in
  pub seen_few : IsAtWork s w → length (seen_by w.pass) ≤ proposal_count (start_of s).lots
  seen_few work =
      legal_few (opening_by (start_of s)) (seen_by w.pass) work.rest.legal

  pub place_few : IsAtWork s w → w.replica.place ≤ proposal_count (start_of s).lots
  place_few work = omega (arith, work.at.place, seen_few work)

  -- it has taken that in
  pub work_told : (w' : Worker) (batch : List Entry) (n : ℕ) → IsAtWork s w →
      batch ≡ batch_from (seen_by w.pass) w.replica.place → HasTaken w.replica w'.replica batch n → w'.pass ≡ w.pass →
      IsAtWork s w'
  work_told w' batch n work is taken same = record {
    rest = rw same work.rest;
    same = rw same (taken.worker ∙ work.same);
    at = rw same (taken_at (opening_by (start_of s)) (seen_by w.pass) batch
        w.replica w'.replica n work.at work.rest.legal is taken);
  }

  -- and when the replica has taken it in, it has all that the worker has made
  pub own_past : (shown : ℕ) → IsAtWork s w → IsAtOrAfterOwn shown w → shown < w.replica.place →
      HasOwn w
  own_past shown work behind past =
      let h = seen_by w.pass in
      let n = w.pass.number in
      let here : w.replica.next ≡ entries_of h w.replica.place n =
      subst (λ v. w.replica.next ≡ entries_of h w.replica.place v) work.same work.at.number in
      record {
        number = omega (
          arith,
          here,
          behind.own,
          entries_grow h (shown + 1) w.replica.place n (omega (arith, past)),
          entries_grow h w.replica.place (length h) n work.at.place,
          own_count h (notes_made_by w.pass) n work.rest.own,
        );
      }

  -- so there are as many turns to spare as there were
  pub room_moved : (taken : Worker) → HasTurnsToSpare s 1 w → HasMovedOn w taken →
      HasTurnsToSpare s 0 taken
  room_moved taken room moved = record { turns = omega (arith, room.turns, moved.turns) }

  -- a worker with some budget left hasn't seen all proposals of the run
  pub place_fewer : IsAtWork s w → HasOwn w →
      w.replica.next < budget w.replica.lots w.replica.worker →
      w.replica.place < proposal_count (start_of s).lots
  place_fewer work own left =
      let o = start_of s in
      let h = seen_by w.pass in
      let v = w.replica.worker in
      let within : w.replica.next < budget o.lots v =
      subst (λ (p : Opening). w.replica.next < budget p.lots v) work.at.opening left in
      let numbered : AreNumbered o.lots h (length h) = record {
        each = λ j there. (work.rest.legal.each j there).numbered;
      } in
      omega (
        arith,
        work.at.place,
        entries_fewer o.lots h (length h) v numbered (some_budget o.lots v _ within)
            (omega (arith, within, counted work own)),
      )

  -- so it has a turn to spare besides those for what it has not taken in
  pub room_left : MayGoOn s w →
      w.replica.next < budget w.replica.lots w.replica.worker → HasTurnsToSpare s 1 w
  room_left may left = record { turns = omega (arith, may.turns, place_fewer may.work may.own left) }

  -- and it may go on after that turn
  pub may_on : (after : Worker) → MayGoOn s w → IsAtWork s after → HasOwn after → HasMovedOn w after →
      MayGoOn s after
  may_on after may work own moved = record {
    work = work;
    own = own;
    turns = omega (arith, may.turns, moved.turns, moved.fewer);
  }

-- what it is told comes next for its replica
pub told_next : (s : Shared) (w' : Worker) (batch : List Entry) → IsAtWork s w' →
    batch ≡ batch_from (seen_by w'.pass) w'.replica.place → AreNextOfSomeJournal w'.replica batch
told_next s w' batch work is = record {
  journal = seen_by w'.pass;
  next = batch_next (opening_by (start_of s)) (seen_by w'.pass) batch w'.replica
      work.at work.rest.legal is;
}

pub place_told : (w w' : Worker) (batch : List Entry) → batch ≡ batch_from (seen_by w.pass) w.replica.place →
    HasTaken w.replica w'.replica batch (length batch) → w.replica.place < length (seen_by w.pass) →
    w.replica.place < w'.replica.place
place_told w w' batch is taken more =
    omega (arith, taken.place, ap (λ (x : List Entry). length x) is, batch_long (seen_by w.pass) w.replica.place)

-- an entry that it has seen stays seen
pub behind_later : (w w' : Worker) (shown : ℕ) → IsAtOrAfterOwn shown w → IsPrefix (seen_by w.pass) (seen_by w'.pass) →
    notes_made_by w'.pass ≡ notes_made_by w.pass → w'.pass.number ≡ w.pass.number → IsAtOrAfterOwn shown w'
behind_later w w' shown behind prefix made number = record {
  within = omega (arith, behind.within, prefix_long (seen_by w.pass) (seen_by w'.pass) prefix);
  own = subst (λ v. entries_of (seen_by w'.pass) (shown + 1) v ≡ length (notes_made_by w'.pass)) (sym number)
      (prefix_entries (seen_by w.pass) (seen_by w'.pass) (shown + 1) w.pass.number prefix (omega (arith, behind.within))
      ∙ behind.own ∙ ap (λ (x : List Entry). length x) (sym made));
}

-- a turn to take one entry in
pub turn_left : (s : Shared) (first w : Worker) (shown : ℕ) → IsAtWork s w → IsAtOrAfterOwn shown w →
    HasTurnsToSpare s 0 first → HasTurned first w → w.replica.place ≤ shown → 0 < w.pass.left
turn_left s first w shown work behind room turned before =
    omega (arith, seen_few s w work, behind.within, room.turns, turned.turns)

pub turned_more : (first w w' : Worker) → HasTurned first w → w'.pass.number ≡ w.pass.number →
    w'.pass.left + 1 ≡ w.pass.left → w.replica.place < w'.replica.place → HasTurned first w'
turned_more first w w' turned number turn place = record {
  number = number ∙ turned.number;
  turns = omega (arith, turned.turns, turn, place);
  fewer = omega (arith, turned.fewer, turn);
}

pub turned_none : (w : Worker) → HasTurned w w
turned_none w = record { number = refl; turns = omega arith; fewer = omega arith }

-- it has handed in a plan, and its replica has taken in what that turn showed
pub moved_taken : (w w' taken : Worker) → w'.replica ≡ w.replica → w'.pass.number ≡ w.pass.number →
    w'.pass.left + 1 ≡ w.pass.left → taken.pass ≡ w'.pass → w'.replica.place < taken.replica.place → HasMovedOn w taken
moved_taken w w' taken same number turn kept place = rw kept (record {
  number = number;
  turns = omega (arith, turn, place, ap (λ (r : Progress). r.place) same);
  fewer = omega (arith, turn);
})

pub moved_then : (w taken after : Worker) → HasMovedOn w taken → HasTurned taken after → HasMovedOn w after
moved_then w taken after moved turned = record {
  number = turned.number ∙ moved.number;
  turns = omega (arith, moved.turns, turned.turns);
  fewer = omega (arith, moved.fewer, turned.fewer);
}
