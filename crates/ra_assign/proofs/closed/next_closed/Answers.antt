use Rattle.std.proofs.Common.{arith}
use Rattle.ra_assign.proofs.ClosedSteps.{stopped, outside, takes}
use Rattle.ra_token.proofs.ToldLemmas.{at_exit, went_as, refuses_as, refuses_here}
use Rattle.ra_assign.proofs.closed.next_closed.Goals as goal

pub returns-in_err-token-clause-refuses : goal.returns-in_err-token-clause-refuses
returns-in_err-token-clause-refuses g c =
    at_exit _ _ _ c.from_residual.ensures
    (refuses_as c.in_err-token.ensures.refuses (λ bytes x h. stopped bytes _ x _ h))

pub returns-then-token-machines-clause-refuses : goal.returns-then-token-machines-clause-refuses
returns-then-token-machines-clause-refuses g c = refuses_here (rw c.in-Some.is at c.in_ok-token.ensures.gives) (λ e. cc)
    (λ bytes x y h. outside bytes _ x y c.in-Some.token h (omega (arith, c.machines.ensures)))

pub returns-clause-gives : goal.returns-clause-gives
returns-clause-gives g c = went_as (rw c.in-Some.is at c.in_ok-token.ensures.gives)
    (λ bytes x y h. takes bytes _ x y c.in-Some.token h (omega (arith, c.machines.ensures)))
