use Rattle.ra_edit_read.proofs.NumberLaws.{any_stopped, any_missing, takes}
use Rattle.ra_token.proofs.ToldLemmas.{at_exit, went_as, refuses_as, refuses_here}
use Rattle.ra_edit_read.proofs.numbers.any_number.Goals as goal

pub returns-in_err-token-clause-refuses : goal.returns-in_err-token-clause-refuses
returns-in_err-token-clause-refuses g c =
    at_exit _ _ _ c.from_residual.ensures
    (refuses_as c.in_err-token.ensures.refuses (λ bytes x h. any_stopped _ h))

pub returns-in_default-clause-refuses : goal.returns-in_default-clause-refuses
returns-in_default-clause-refuses g c = refuses_here (rw c.in_default.is at c.in_ok-token.ensures.gives) (λ e. cc)
    (λ bytes x y h. any_missing _ h)

pub returns-clause-gives : goal.returns-clause-gives
returns-clause-gives g c =
    went_as (rw c.in-Some.is at c.in_ok-token.ensures.gives) (λ bytes x y h. takes bytes x y c.in-Some.token h)
