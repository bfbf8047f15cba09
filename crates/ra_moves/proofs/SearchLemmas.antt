-- Searches that find something only at places for which a test is true.
use Rattle.std.proofs.Common.{◌≡◌, ℕ, ◌<◌, Bool, true, Option, sym, ◌∙◌, ⊎_elim}
use Rattle.std.proofs.lemmas.Bool.{cases_Bool}
use Rattle.ra_base.specs.Searches.{first}
use Rattle.ra_base.specs.declared.causes.Cause.{Cause}
use Rattle.ra_base.proofs.Searches.{first_same}
use Rattle.ra_moves.specs.Laws.{OnlyWhere}

-- two searches with one test that agree at the places that pass it find the same
pub first_agrees : (n : ℕ) (test : ℕ → Bool) (f g : ℕ → Option Cause) → OnlyWhere n test f → OnlyWhere n test g →
    ((k : ℕ) → k < n → test k ≡ true → f k ≡ g k) → first n f ≡ first n g
first_agrees n test f g one other same = first_same n f g (λ k within. ⊎_elim
    (λ yes. same k within yes)
    (λ no. one.others k within no ∙ sym (other.others k within no))
    (cases_Bool _))
