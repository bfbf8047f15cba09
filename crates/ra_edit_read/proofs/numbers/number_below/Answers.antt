use Rattle.std.proofs.Common.{arith}
use Rattle.ra_edit_read.proofs.NumberLaws.{below_stopped, below_missing, below_outside, takes}
use Rattle.ra_token.proofs.ToldLemmas.{at_exit, went_as, refuses_as, refuses_here}
use Rattle.ra_edit_read.proofs.numbers.number_below.Goals as goal

pub returns-in_err-token-clause-refuses : goal.returns-in_err-token-clause-refuses
returns-in_err-token-clause-refuses g c =
    at_exit _ _ _ c.from_residual.ensures
    (refuses_as c.in_err-token.ensures.refuses (λ bytes x h. below_stopped _ _ h))

pub returns-in_default-clause-refuses : goal.returns-in_default-clause-refuses
returns-in_default-clause-refuses g c = refuses_here (rw c.in_default.is at c.in_ok-token.ensures.gives) (λ e. cc)
    (λ bytes x y h. below_missing _ _ h)

pub returns-then-token-count-clause-refuses : goal.returns-then-token-count-clause-refuses
returns-then-token-count-clause-refuses g c = refuses_here (rw c.in-Some.is at c.in_ok-token.ensures.gives) (λ e. cc)
    (λ bytes x y h. below_outside _ _ c.in-Some.token h (omega arith))

pub returns-clause-gives : goal.returns-clause-gives
returns-clause-gives g c =
    went_as (rw c.in-Some.is at c.in_ok-token.ensures.gives) (λ bytes x y h. takes bytes x y c.in-Some.token h)
