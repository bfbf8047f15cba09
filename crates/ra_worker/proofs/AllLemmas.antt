-- A list of replicas, one for each worker so far, all at place 0.
use Rattle.std.proofs.Common.{◌≡◌, ℕ, ◌+◌, ◌<◌, ◌≤◌, List, [], ◌∷◌, ◌++◌, get_or, length, refl, sym, ◌∙◌, subst, ⊎_elim, arith}
use Rattle.std.proofs.lemmas.Bool.{cases_lt}
use Rattle.std.proofs.lemmas.List.{length_push, get_or_append_left, get_or_push}
use Rattle.ra_journal.specs.declared.entries.Entry.{Entry}
use Rattle.ra_journal.specs.Entries.{worker_count}
use Rattle.ra_journal.specs.Openings.{Opening}
use Rattle.ra_worker.specs.Replicas.{Progress, IsAt}
use Rattle.ra_worker.specs.AllReplicas.{IsAtOf, AreAt}

-- the first n workers have a replica each, at a state of every journal
pub record AreFirst (o : Opening) (n : ℕ) (replicas : List Progress) : Type 0 where
  pub long : length replicas ≡ n
  pub each : (h : List Entry) (w : ℕ) (r : Progress) → w < n → get_or replicas w r ≡ r → IsAtOf o h w r

pub first_none : (o : Opening) → AreFirst o 0 []
first_none o = record { long = refl; each = λ h w r there is. absurd (omega (arith, there)) }

pub first_more : (o : Opening) (n : ℕ) (rs : List Progress) (s : Progress) →
    AreFirst o n rs → s.worker ≡ n → ((h : List Entry) → IsAt o h s) →
    AreFirst o (n + 1) (rs ++ s ∷ [])
first_more o n rs s first own at = record {
  long = omega (arith, length_push rs s, first.long);
  each = λ h w r there is. ⊎_elim
      (λ (before : w < n).
      first.each h w r before (sym (get_or_append_left rs (s ∷ []) r w (omega (arith, before, first.long)))
      ∙ is))
      (λ (last : n ≤ w).
      let here : w ≡ length rs = omega (arith, there, first.long) in
      let same : s ≡ r = sym (get_or_push rs s r w (sym here)) ∙ is in
      subst (IsAtOf o h w) same (record { worker = own ∙ omega (arith, here, first.long); at = at h }))
      (cases_lt w n);
}

pub first_all : (o : Opening) (n : ℕ) (rs : List Progress) (h : List Entry) →
    AreFirst o n rs → n ≡ worker_count o.lots → AreAt o h rs
first_all o n rs h first all = record {
  one_each = first.long ∙ all;
  each = λ w r there is. first.each h w r (omega (arith, there, first.long)) is;
}
