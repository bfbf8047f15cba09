-- What a worker knows of the entries that a commit copied, or left because they are refused.
use Rattle.std.proofs.Common.{◌≡◌, ℕ, ◌+◌, ◌<◌, ◌≤◌, List, length, sym, ap, ◌∙◌, subst, ⊎_elim, arith}
use Rattle.ra_moves.specs.declared.verdicts.Plan.{Plan}
use Rattle.ra_journal.specs.declared.entries.Entry.{Entry}
use Rattle.ra_journal.specs.declared.replies.Reply.{Reply}
use Rattle.ra_journal.specs.Batches.{batch_from}
use Rattle.ra_journal.specs.Entries.{entries_of, budget}
use Rattle.ra_journal.specs.Quiet.{AreRefused}
use Rattle.ra_journal.specs.Openings.{Opening}
use Rattle.ra_turn.specs.Passes.{seen_by, notes_made_by as mine_of}
use Rattle.ra_shared.specs.declared.shared.Shared.{Shared}
use Rattle.ra_shared.specs.Copies.{CopiesUnlessQuiet}
use Rattle.ra_shared.specs.Shares.{start_of, HasCommitted}
use Rattle.ra_shared.proofs.Quiet.{made_more}
use Rattle.ra_worker.proofs.OpeningLemmas.{passed_worker}
use Rattle.ra_worker.proofs.TurnLemmas.{batch_long}
use Rattle.ra_worker.specs.Replicas.{Progress, IsNextPlan, IsAt, ArePassed, HasPassed}
use Rattle.ra_worker.specs.declared.worker.Worker.{Worker}
use Rattle.ra_worker.specs.Working.{IsAtWork, IsQuiet, HasNextBatch, IsAtOrAfterOwn, HasOwn, shown_in}
use Rattle.ra_worker.proofs.Seen.{own_count}
use Rattle.ra_worker.proofs.Steps.{next_commit, work_handed, later_handed, behind_handed}

-- what it has seen stays the same while it takes that in
pub behind_same : (w after : Worker) (shown : ℕ) → IsAtOrAfterOwn shown w → after.pass ≡ w.pass →
    IsAtOrAfterOwn shown after
behind_same w after shown behind same = record { within = rw same behind.within; own = rw same behind.own }

-- if the commit copied something, that is what comes next
pub copied_next : (w : Worker) (q : ℕ) → CopiesUnlessQuiet q (seen_by w.pass) w.batch → q ≡ w.replica.place →
    (length w.batch ≡ 0 → ⊥) → HasNextBatch w
copied_next w q copied made some = record {
  next = ⊎_elim
      (λ all. all.1 ∙ ap (batch_from (seen_by w.pass)) made)
      (λ quiet. absurd (some (ap length quiet.1)))
      copied;
}

-- and if it copied nothing, the entries from the plan's place on are refused
nothing_copied : (q : ℕ) (seen batch : List Entry) → CopiesUnlessQuiet q seen batch → length batch ≡ 0 →
    AreRefused seen q (length seen)
nothing_copied q seen batch copied none = ⊎_elim
    (λ all. record { each = λ j from within. absurd (omega (arith, none, ap length all.1, batch_long seen q)) })
    (λ quiet. quiet.0)
    copied

module _ (s : Shared) (w w' : Worker) (plan : Plan) (reply : Reply) (work : IsAtWork s w) (own : HasOwn w)
    (left : w.replica.next < budget w.replica.lots w.replica.worker)
    (next : IsNextPlan w.replica plan) (same : w'.replica ≡ w.replica)
    (done : HasCommitted s plan w.pass w'.pass reply) where
  pub handed : IsAtWork s w'
  handed = work_handed s w w' work same done.rest done.turn.0 done.seen

  pub shown : IsAtOrAfterOwn (shown_in reply) w'
  shown = behind_handed s w w' plan reply work own left next done.rest done.turn.0 done.seen done.committed

  pub later : w.replica.place ≤ shown_in reply
  later = later_handed s w w' plan reply work own left next done.rest done.turn.0 done.seen done.committed

  module _ (copied : CopiesUnlessQuiet plan.q (seen_by w'.pass) w'.batch) (none : length w'.batch ≡ 0) where
    refused : AreRefused (seen_by w'.pass) plan.q (length (seen_by w'.pass))
    refused = nothing_copied plan.q (seen_by w'.pass) w'.batch copied none

    grown : length (mine_of w'.pass) ≡ length (mine_of w.pass) + 1
    grown = made_more (start_of s) w.pass.number plan (seen_by w.pass) (mine_of w.pass) (seen_by w'.pass)
        (mine_of w'.pass) reply work.rest.own (next_commit s w plan work own left next) done.committed refused

    -- so what it has seen may be passed over
    pub quiet_next : IsQuiet w'
    quiet_next =
        let h = seen_by w'.pass in
        let r = w'.replica in
        let at = handed.at in
        let place : plan.q ≡ r.place = next.place ∙ sym (ap (λ (x : Progress). x.place) same) in
        let made : entries_of h (length h) r.worker ≡ length (mine_of w'.pass) =
        subst (λ (v : ℕ). entries_of h (length h) v ≡ length (mine_of w'.pass)) (sym handed.same)
        (own_count h (mine_of w'.pass) w'.pass.number done.rest.own) in
        record {
          here = subst (λ (p : Opening). IsAt p h r) (sym at.opening) at;
          from = at.place;
          within = omega arith;
          refused = subst (λ (q : ℕ). AreRefused h q (length h)) place refused;
          own = omega (arith, made, grown, own.number, ap (λ (x : Progress). x.next) same);
        }

    -- and after that its replica has all that it has made
    pub own_passed : (after : Worker) → after.pass ≡ w'.pass →
        after.replica.next ≡ w'.replica.next + 1 → HasOwn after
    own_passed after kept number = record {
      number = rw kept
          (omega (arith, number, grown, own.number, ap (λ (x : Progress). x.next) same));
    }

  pub place_grows : w'.replica.place < length (seen_by w'.pass)
  place_grows = omega (arith, later, shown.within, ap (λ (x : Progress). x.place) same)

-- a worker that has passed over what it has seen
pub work_passed : (s : Shared) (w after : Worker) (to : ℕ) → IsAtWork s w → IsQuiet w →
    to ≡ length (seen_by w.pass) → HasPassed w.replica after.replica to → after.pass ≡ w.pass → IsAtWork s after
work_passed s w after to work quiet is passed same =
    let h = seen_by w.pass in
    let r = w.replica in
    let at = passed.at h (subst (λ (n : ℕ). ArePassed r n h) (sym is) quiet) in
    record {
      rest = rw same work.rest;
      same = rw same (passed_worker passed ∙ work.same);
      at = rw same (subst (λ (p : Opening). IsAt p h after.replica) work.at.opening at);
    }
