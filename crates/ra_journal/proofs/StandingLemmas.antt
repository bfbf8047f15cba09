-- In a legal journal each move is a move of the state where it is made, and each entry can be weighed, where it was
-- planned and at its own place.
use Rattle.std.proofs.Common.{◌≡◌, ℕ, zero, suc, ◌<◌, ◌≤◌, List, length, Option, Some, None, sym, refl, subst}
use Rattle.std.proofs.Common.{⊎_elim, arith}
use Rattle.std.proofs.lemmas.Bool.{cases_lt}
use Rattle.ra_base.specs.declared.causes.Cause.{Cause}
use Rattle.ra_base.specs.declared.ids.Machine.{Machine}
use Rattle.ra_base.proofs.Searches.{left_none}
use Rattle.ra_model.specs.declared.raw.Tables.{Tables}
use Rattle.ra_model.specs.Limits.{WellFormed}
use Rattle.ra_model.specs.Assignments.{IsAssignment}
use Rattle.ra_model.specs.Situations.{Situation}
use Rattle.ra_moves.specs.declared.steps.Step.{Step}
use Rattle.ra_moves.specs.declared.verdicts.Verdict.{Verdict}
use Rattle.ra_moves.specs.declared.verdicts.Verdict.TheVariants.{Done, Refused}
use Rattle.ra_moves.specs.Judging.{repeat_of, broken_by, verdict_of, judge}
use Rattle.ra_moves.specs.Moving.{IsMove, IsOffered}
use Rattle.ra_moves.specs.Alike.{HeldAlike}
use Rattle.ra_guards.specs.Versions.{Untouched}
use Rattle.ra_guards.specs.Made.{made_state}
use Rattle.ra_guards.proofs.TouchLemmas.{apart_from_untouched}
use Rattle.ra_guards.proofs.ResidentLemmas.{guards_keep as residents_kept}
use Rattle.ra_journal.specs.declared.entries.Entry.{Entry}
use Rattle.ra_journal.specs.Entries.{entry_at, steps_made, made_by, made_in, words, allowed}
use Rattle.ra_journal.specs.States.{state, after_made, state_at}
use Rattle.ra_journal.specs.Legal.{IsLegalAt, Legal}
use Rattle.ra_journal.specs.Laws.{MakesMoves, IsOfferedAt, LegalMakesMoves, LegalIsOffered}
use Rattle.ra_journal.specs.Openings.{Opening}
use Rattle.ra_journal.proofs.MadeLemmas.{state_is_made, made_stand}
use Rattle.ra_journal.proofs.Offers.{plan_offered, offered_alike}
use Rattle.ra_journal.proofs.SoundLemmas.{applied_fits}

-- what an entry makes is its move, and its verdict is then Done
record IsMade (verdict : Verdict) (steps made : List Step) : Type 0 where
  cost : ℕ
  done : verdict ≡ Done cost
  same : steps ≡ made

made_done : (verdict : Verdict) (steps made : List Step) → steps_made verdict steps ≡ Some made →
    IsMade verdict steps made
unfolding steps_made
made_done (Done cost) steps made is = record { cost = cost; done = refl; same = cc }
made_done (Refused cause) steps made is = absurd (cc)

-- a move that is done isn't refused as Repeat
done_none : (found : Option Cause) (x cost : ℕ) → verdict_of found x ≡ Done cost → found ≡ None
unfolding verdict_of
done_none None x cost is = refl
done_none (Some cause) x cost is = absurd (cc)

pub unbroken_if_done : (st : Situation) (steps : List Step) (rise cost : ℕ) (verdict : Verdict) →
    verdict ≡ judge st steps rise → verdict ≡ Done cost → broken_by st steps ≡ None
unfolding judge
unbroken_if_done st steps rise cost verdict is done = grind (arith, left_none, done_none)

pub done_no_repeat : (st : Situation) (steps : List Step) (rise cost : ℕ) (verdict : Verdict) →
    verdict ≡ judge st steps rise → verdict ≡ Done cost → repeat_of steps ≡ None
unfolding broken_by
done_no_repeat st steps rise cost verdict is done =
    left_none (repeat_of steps) _ (unbroken_if_done st steps rise cost verdict is done)

-- all states up to place n are assignments, and what is made before it are moves of them
record AreStanding (o : Opening) (h : List Entry) (n : ℕ) : Type 0 where
  fits : (j : ℕ) → j ≤ n → IsAssignment o.tables (state o.start h j)
  moves : MakesMoves o h n

after_fits : (i : Tables) (a : List Machine) (made : Option (List Step)) → IsAssignment i a →
    ((steps : List Step) → made ≡ Some steps → IsMove i a steps) → IsAssignment i (after_made a made)
unfolding after_made
after_fits i a None fits moves = fits
after_fits i a (Some steps) fits moves = applied_fits i a steps (record { each = (moves steps refl).reaches }) fits

module _ (o : Opening) (h : List Entry) where
  -- untouched guards keep their residents
  pub guards_keep : (q n : ℕ) (steps : List Step) → q ≤ n →
      MakesMoves o h n → Untouched o.tables (made_in h) q n steps →
      HeldAlike o.tables steps (state o.start h q) (state o.start h n)
  guards_keep q n steps few moves untouched =
      let alike = residents_kept o.tables o.start (made_in h) q n steps few (made_stand o h n moves)
      (apart_from_untouched o.tables (made_in h) q n steps untouched) in
      subst (λ a. HeldAlike o.tables steps a (state o.start h n)) (sym (state_is_made o.start h q))
      (subst (HeldAlike o.tables steps (made_state o.start (made_in h) q)) (sym (state_is_made o.start h n)) alike)

  -- so what can be weighed at q can be weighed at n
  pub offered_later : (q n : ℕ) (steps : List Step) → q ≤ n →
      MakesMoves o h n → Untouched o.tables (made_in h) q n steps → IsAssignment o.tables (state o.start h n) →
      IsOffered o.tables (state o.start h q) steps → IsOffered o.tables (state o.start h n) steps
  offered_later q n steps few moves untouched fits offered =
      offered_alike o.tables (state o.start h q) (state o.start h n) steps
      (guards_keep q n steps few moves untouched) fits offered

  module _ (j : ℕ) where
    offered_at : WellFormed o.tables →
        IsLegalAt o h j (entry_at h j) → AreStanding o h j → IsOfferedAt o h j
    offered_at limits legal standing =
        let e = entry_at h j in
        let planned : IsOffered o.tables (state o.start h e.q) e.mv.steps =
        subst (λ mv. IsOffered o.tables (state o.start h e.q) mv.steps) (sym legal.planned)
        (plan_offered (state_at o h e.q) (words o.lots e.worker e.k) o.lots.drawing (allowed o.lots e.worker e.k) limits
        (standing.fits e.q legal.placed.place)) in
        record {
          planned = planned;
          here = offered_later e.q j e.mv.steps legal.placed.place standing.moves legal.untouched
              (standing.fits j (omega arith)) planned;
        }

    -- what the entry at place j makes
    made_stands : (steps : List Step) →
        IsLegalAt o h j (entry_at h j) → IsOfferedAt o h j → made_by (entry_at h j) ≡ Some steps →
        IsMove o.tables (state o.start h j) steps
    unfolding made_by
    made_stands steps legal offered is =
        let e = entry_at h j in
        let made = made_done e.verdict e.mv.steps steps is in
        subst (IsMove o.tables (state o.start h j)) made.same
        (offered.here
        (done_no_repeat (state_at o h j) e.mv.steps (allowed o.lots e.worker e.k) made.cost e.verdict legal.judged
        made.done))

    standing_more : WellFormed o.tables →
        IsLegalAt o h j (entry_at h j) → AreStanding o h j → AreStanding o h (suc j)
    unfolding state
    standing_more limits legal standing =
        let here : (steps : List Step) → made_by (entry_at h j) ≡ Some steps → IsMove o.tables (state o.start h j) steps =
        λ steps is. made_stands steps legal (offered_at limits legal standing) is in
        record {
          fits = λ k few. ⊎_elim
              (λ (before : k < suc j). standing.fits k (omega arith))
              (λ (after : suc j ≤ k). let last : suc j ≡ k = omega arith in
              subst (λ n. IsAssignment o.tables (state o.start h n)) last
              (after_fits o.tables (state o.start h j) (made_by (entry_at h j)) (standing.fits j (omega arith)) here))
              (cases_lt k (suc j));
          moves = record {
            each = λ k steps within is. ⊎_elim
                (λ (before : k < j). standing.moves.each k steps before is)
                (λ (after : j ≤ k). let last : j ≡ k = omega arith in
                subst (λ n. made_by (entry_at h n) ≡ Some steps → IsMove o.tables (state o.start h n) steps) last
                (here steps)
                is)
                (cases_lt k j);
          };
        }

  standing_up_to : WellFormed o.tables → IsAssignment o.tables o.start →
      Legal o h → (j : ℕ) → j ≤ length h → AreStanding o h j
  unfolding state
  standing_up_to limits fits legal zero few = record {
    fits = λ k none. let start : 0 ≡ k = omega arith in subst (λ n. IsAssignment o.tables (state o.start h n)) start fits;
    moves = record { each = λ k steps none is. absurd (omega arith) };
  }
  standing_up_to limits fits legal (suc j) few =
      standing_more j limits (legal.each j few) (standing_up_to limits fits legal j (omega arith))

pub legal_moves : LegalMakesMoves
legal_moves o h limits fits legal = (standing_up_to o h limits fits legal (length h) (omega arith)).moves

pub legal_offered : LegalIsOffered
legal_offered o h limits fits legal j within =
    offered_at o h j limits (legal.each j within) (standing_up_to o h limits fits legal j (omega arith))
