-- The clauses of legality, as loops meet them.
use Rattle.std.proofs.Common.{◌≡◌, ◌↔◌, ℕ, ◌+◌, ◌<◌, ◌≤◌, Bool, true, List, sym, refl, ap, add-one, ◌∙◌, ⊎_elim, subst, arith}
use Rattle.std.proofs.lemmas.Bool.{cases_lt}
use Rattle.ra_base.specs.declared.causes.Cause.{Cause}
use Rattle.ra_base.specs.declared.ids.Machine.{Machine}
use Rattle.ra_model.specs.declared.raw.Tables.{Tables}
use Rattle.ra_moves.specs.declared.steps.Step.{Step}
use Rattle.ra_moves.specs.declared.verdicts.Verdict.{Verdict}
use Rattle.ra_moves.specs.declared.verdicts.Verdict.TheVariants.{Done, Refused}
use Rattle.ra_guards.specs.Versions.{Apart, ApartSince, Untouched}
use Rattle.ra_guards.proofs.TouchLemmas.{since_more, apart_from_untouched}
use Rattle.ra_journal.specs.declared.entries.Entry.{Entry}
use Rattle.ra_journal.specs.Entries.{entry_at, steps_made, made_by, made_in}
use Rattle.ra_guards.specs.Made.{after_made}
use Rattle.ra_journal.specs.States.{state}
use Rattle.ra_journal.proofs.Places.{made_place}
use Rattle.ra_journal.specs.Legal.{IsLegalAt, IsLegal}
use Rattle.ra_journal.specs.Openings.{Opening}
use Rattle.plain.specs.Touching.{IsApartFrom}

-- none of the first n entries is of worker w and at place q or after it
pub record SeenBelow (h : List Entry) (w q n : ℕ) : Type 0 where
  pub each : (j : ℕ) → j < n → (entry_at h j).worker ≡ w → j < q

pub seen_none : (h : List Entry) (w q : ℕ) → SeenBelow h w q 0
seen_none h w q = record { each = λ j before own. absurd (omega arith) }

-- one legal entry more
pub legal_none : (o : Opening) (h : List Entry) → IsLegal o h 0
legal_none o h = record { each = λ j before. absurd (omega arith) }

pub legal_more : (o : Opening) (h : List Entry) (n : ℕ) →
    IsLegalAt o h n (entry_at h n) → IsLegal o h n → IsLegal o h (n + 1)
legal_more o h n here before = record {
  each = λ j within. ⊎_elim
      (λ (earlier : j < n). before.each j earlier)
      (λ (later : n ≤ j). let same : n ≡ j = omega arith in subst (λ k. IsLegalAt o h k (entry_at h k)) same here)
      (cases_lt j n);
}

-- whether an entry touches no guard of a move, by its verdict
pub done_apart : (i : Tables) (steps others : List Step) (verdict : Verdict) (cost : ℕ) (apart : Bool) →
    verdict ≡ Done cost → ((apart ≡ true) ↔ Apart i steps others) →
    (apart ≡ true) ↔ IsApartFrom i steps (steps_made verdict others)
unfolding steps_made
done_apart i steps others verdict cost apart is same =
    rw is (
      λ yes more made. subst (λ (x : List Step). Apart i steps x) (cc made) (same.0 yes),
      λ all.
          same.1 (all others refl),
    )

pub refused_apart : (i : Tables) (steps others : List Step) (verdict : Verdict) (cause : Cause) →
    verdict ≡ Refused cause → IsApartFrom i steps (steps_made verdict others)
unfolding steps_made
refused_apart i steps others verdict cause is = rw is (λ more made. absurd (cc))

-- the entry at a place from q on is apart from an untouched move
pub apart_there : (i : Tables) (h : List Entry) (q n p : ℕ) (steps : List Step) (e : Entry) → q ≤ p → p < n →
    e ≡ entry_at h p → Untouched i (made_in h) q n steps → IsApartFrom i steps (made_by e)
apart_there i h q n p steps e since within is untouched =
    λ others made. (apart_from_untouched i (made_in h) q n steps untouched).each p others since within
    (made_place h p ∙ ap made_by (sym is) ∙ made)

-- one entry more that is apart
pub apart_more : (i : Tables) (h : List Entry) (q n : ℕ) (steps : List Step) (e : Entry) → e ≡ entry_at h n →
    IsApartFrom i steps (made_by e) → ApartSince i (made_in h) q n steps → ApartSince i (made_in h) q (n + 1) steps
apart_more i h q n steps e is apart before =
    since_more i (made_in h) q n steps (λ others made. apart others (ap made_by is ∙ sym (made_place h n) ∙ made))
    before

-- one entry more of a state
pub state_next : (a0 a : List Machine) (h : List Entry) (n : ℕ) (e : Entry) → a ≡ state a0 h n → e ≡ entry_at h n →
    after_made a (steps_made e.verdict e.mv.steps) ≡ state a0 h (n + 1)
unfolding state made_by
state_next a0 a h n e here is = rw (add-one, here, is) refl
