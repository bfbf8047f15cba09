-- Where the last entry that is done stands, and what is quiet from a place on. What is refused leaves the state.
use Rattle.std.proofs.Common.{◌≡◌, ℕ, zero, suc, ◌≤◌, List, [], ◌∷◌, ◌++◌, length, refl, sym, ap, ◌∙◌, inl, inr}
use Rattle.std.proofs.Common.{arith}
use Rattle.std.proofs.lemmas.Bool.{cases_lt}
use Rattle.std.proofs.lemmas.List.{length_push}
use Rattle.ra_base.specs.declared.ids.Machine.{Machine}
use Rattle.ra_moves.specs.declared.verdicts.Verdict.{Verdict}
use Rattle.ra_moves.specs.declared.verdicts.Verdict.TheVariants.{Done, Refused}
use Rattle.ra_journal.specs.declared.entries.Entry.{Entry}
use Rattle.ra_journal.specs.Entries.{entry_at, steps_made, made_by}
use Rattle.ra_journal.specs.Quiet.{AreRefused, IsAfterDone, done_then}
use Rattle.ra_journal.specs.States.{state, after_made}
use Rattle.ra_journal.proofs.Places.{entry_before, entry_added}

-- one entry more: it is the last that is done if its verdict is done
done_by : (h : List Entry) (e : Entry) (n m : ℕ) (verdict : Verdict) → e.verdict ≡ verdict → IsAfterDone h n →
    m ≡ done_then n (suc (length h)) verdict → IsAfterDone (h ++ e ∷ []) m
unfolding done_then made_by steps_made
done_by h e n m (Done cost) of last is = grind (arith, entry_added, length_push)
done_by h e n m (Refused cause) of last is =
    let long = length_push h e in
    record {
      within = omega (arith, is, long, last.within);
      done = λ j same none. last.done j (sym is ∙ same)
          (ap made_by (sym (entry_before h e j (omega (arith, is, same, last.within)))) ∙ none);
      refused = record {
        each = λ j from within. elim (cases_lt j (length h)) [
          | inl before ↦ ap made_by (entry_before h e j before) ∙ last.refused.each j (omega (arith, is, from)) before
          | inr after ↦ let here : j ≡ length h = omega (arith, after, within, long) in
              ap (λ p. made_by (entry_at (h ++ e ∷ []) p)) here ∙ ap made_by (entry_added h e)
              ∙ ap (λ v. steps_made v e.mv.steps) of
        ];
      };
    }

pub done_added : (h : List Entry) (e : Entry) (n m : ℕ) → IsAfterDone h n →
    m ≡ done_then n (suc (length h)) e.verdict → IsAfterDone (h ++ e ∷ []) m
done_added h e n m last is = done_by h e n m e.verdict refl last is

-- all entries from a place on are refused if and only if that number is not above it
pub quiet_if : (h : List Entry) (n at : ℕ) → IsAfterDone h n → n ≤ at → AreRefused h at (length h)
quiet_if h n at last few = record { each = λ j from within. last.refused.each j (omega arith) within }

pub quiet_only : (h : List Entry) (n at : ℕ) → IsAfterDone h n → AreRefused h at (length h) → n ≤ at
quiet_only h zero at last refused = omega arith
quiet_only h (suc j) at last refused = elim (cases_lt at (suc j)) [
  | inl before ↦ absurd (last.done j refl (refused.each j (omega arith) (omega (arith, last.within))))
  | inr few ↦ few
]

-- the state after entries that are refused
pub state_passed : (a0 : List Machine) (h : List Entry) (m n : ℕ) → m ≤ n → AreRefused h m n →
    state a0 h n ≡ state a0 h m
unfolding state after_made
state_passed a0 h m zero few are = grind arith
state_passed a0 h m (suc n) few are = elim (cases_lt m (suc n)) [
  | inl before ↦ ap (after_made (state a0 h n)) (are.each n (omega arith) (omega arith))
      ∙ state_passed a0 h m n (omega arith)
      (record { each = λ j from within. are.each j from (omega arith) })
  | inr here ↦ ap (state a0 h) (let same : suc n ≡ m = omega arith in same)
]
