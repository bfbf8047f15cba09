-- The runs of a case with one cut after another.
use Rattle.std.proofs.Common.{inl, inr, ◌≡◌, ℕ, zero, suc, ◌+◌, ◌<◌, arith, List, [], ◌∷◌, subst, slice_index}
use Rattle.std.proofs.lemmas.Bool.{cases_lt}
use Rattle.ra_cases.specs.declared.asking.Asked.{Asked}
use Rattle.ra_cases.specs.Runs.{RunsAt, RunsAtEach}

-- a case that names its cut has one run
pub one_cut : (asked : Asked) (each : ℕ) → RunsAt asked each → RunsAtEach asked (each ∷ [])
one_cut asked each ran zero within = ran
one_cut asked each ran (suc k) within = absurd (omega arith)

-- the cuts before one, and that one
pub one_more : (asked : Asked) (cuts : List ℕ) (n : ℕ) → ((k : ℕ) → k < n → RunsAt asked (slice_index cuts k)) →
    RunsAt asked (slice_index cuts n) → (k : ℕ) → k < n + 1 → RunsAt asked (slice_index cuts k)
one_more asked cuts n before here k within =
    elim (cases_lt k n) [
      | inl h ↦ before k h
      | inr h ↦ let e : n ≡ k = omega arith in subst (λ j. RunsAt asked (slice_index cuts j)) e here
    ]
