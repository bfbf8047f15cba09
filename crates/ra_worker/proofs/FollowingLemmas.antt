-- What one entry more makes of a state.
use Rattle.std.proofs.Common.{◌≡◌, ℕ, ◌+◌, ◌<◌, eqb, List, length, None, refl, sym, add-one}
use Rattle.ra_base.specs.declared.ids.Machine.{Machine}
use Rattle.ra_base.specs.declared.causes.Cause.{Cause}
use Rattle.ra_base.specs.Sums.{one_if}
use Rattle.ra_base.proofs.Searches.{left_none}
use Rattle.ra_base.proofs.Counts.{count_more}
use Rattle.ra_model.specs.Limits.{WellFormed}
use Rattle.ra_model.specs.Assignments.{IsAssignment}
use Rattle.ra_model.specs.Situations.{Situation}
use Rattle.ra_moves.specs.declared.steps.Step.{Step}
use Rattle.ra_moves.specs.declared.verdicts.Verdict.{Verdict}
use Rattle.ra_moves.specs.declared.verdicts.Verdict.TheVariants.{Done, Refused}
use Rattle.ra_moves.specs.Judging.{broken_by, repeat_of}
use Rattle.ra_moves.specs.Replacing.{applied}
use Rattle.ra_moves.specs.Moving.{MayMove}
use Rattle.ra_journal.specs.declared.entries.Entry.{Entry}
use Rattle.ra_journal.specs.Entries.{entry_at, entries_of, steps_made, made_by}
use Rattle.ra_journal.specs.Legal.{Legal}
use Rattle.ra_journal.specs.States.{state, after_made, state_at}
use Rattle.ra_journal.specs.Openings.{Opening}
use Rattle.ra_journal.proofs.StandingLemmas.{unbroken_if_done, legal_offered}
use Rattle.ra_worker.specs.Following.{IsJudged}

-- a move that is done breaks nothing
pub done_unbroken : (st : Situation) (steps : List Step) (cost : ℕ) (verdict : Verdict) →
    IsJudged st steps verdict → verdict ≡ Done cost → broken_by st steps ≡ None
done_unbroken st steps cost verdict is done =
    unbroken_if_done st steps is.allowed cost verdict is.judged done

-- so what can be weighed is a move
pub done_moves : (st : Situation) (steps : List Step) (cost : ℕ) (verdict : Verdict) →
    IsJudged st steps verdict → verdict ≡ Done cost → MayMove st steps
unfolding broken_by
done_moves st steps cost verdict is done =
    is.offered (left_none (repeat_of steps) _ (done_unbroken st steps cost verdict is done))

-- the state after an entry by its verdict
pub after_done : (a : List Machine) (steps : List Step) (cost : ℕ) (verdict : Verdict) → verdict ≡ Done cost →
    applied a steps ≡ after_made a (steps_made verdict steps)
unfolding after_made steps_made
after_done a steps cost verdict done = rw done refl

pub after_refused : (a : List Machine) (steps : List Step) (cause : Cause) (verdict : Verdict) →
    verdict ≡ Refused cause → a ≡ after_made a (steps_made verdict steps)
unfolding after_made steps_made
after_refused a steps cause verdict refused = rw refused refl

-- each entry of a legal journal was offered and judged at the state of its own place
pub entry_judged : (o : Opening) (h : List Entry) (j : ℕ) (e : Entry) → WellFormed o.tables →
    IsAssignment o.tables o.start → Legal o h → j < length h → e ≡ entry_at h j →
    IsJudged (state_at o h j) e.mv.steps e.verdict
entry_judged o h j e limits fits legal within e_is = rw e_is (record {
  allowed = _;
  offered = (legal_offered o h limits fits legal j within).here;
  judged = (legal.each j within).judged;
})

-- the state at the next place
pub next_state : (a0 a b : List Machine) (h : List Entry) (j : ℕ) (e : Entry) → a ≡ state a0 h j → e ≡ entry_at h j →
    b ≡ after_made a (made_by e) → b ≡ state a0 h (j + 1)
unfolding state
next_state a0 a b h j e a_is e_is b_is = rw (add-one, ← e_is, ← a_is) b_is

pub next_stated : (a0 a b : List Machine) (h : List Entry) (j : ℕ) (e : Entry) → a ≡ state a0 h j → e ≡ entry_at h j →
    b ≡ after_made a (steps_made e.verdict e.mv.steps) → b ≡ state a0 h (j + 1)
unfolding made_by
next_stated a0 a b h j e a_is e_is b_is = next_state a0 a b h j e a_is e_is b_is

-- and how many entries each worker has before it
pub next_count : (h : List Entry) (j w n : ℕ) (e : Entry) → e ≡ entry_at h j → n ≡ entries_of h j w →
    n + one_if (eqb e.worker w) ≡ entries_of h (j + 1) w
unfolding entries_of
next_count h j w n e e_is n_is = rw (e_is, n_is) (sym (count_more j (λ k. eqb (entry_at h k).worker w)))
