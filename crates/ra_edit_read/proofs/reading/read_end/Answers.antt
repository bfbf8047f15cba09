use Rattle.std.proofs.Common.{arith}
use Rattle.ra_edit_read.proofs.FileLaws.{stop_file, stop_many}
use Rattle.ra_token.proofs.ToldLemmas.{at_exit, went_as, refuses_as, refuses_here}
use Rattle.ra_edit_read.proofs.reading.read_end.Goals as goal

pub returns-in_err-next-clause-refuses : goal.returns-in_err-next-clause-refuses
returns-in_err-next-clause-refuses g c =
    at_exit _ _ _ c.from_residual.ensures
    (refuses_as c.in_err-next.ensures.refuses (λ bytes x h. stop_file _ _ h (omega arith)))

pub returns-in-Some-clause-refuses : goal.returns-in-Some-clause-refuses
returns-in-Some-clause-refuses g c = refuses_here (rw c.in-Some.is at c.in_ok-next.ensures.gives) (λ e. cc)
    (λ bytes x y h. stop_many _ c.in-Some.token h)

pub returns-in-None-clause-gives : goal.returns-in-None-clause-gives
returns-in-None-clause-gives g c =
    went_as (rw c.in-None.is at c.in_ok-next.ensures.gives) (λ bytes x y h. record { answer = h.answer })
