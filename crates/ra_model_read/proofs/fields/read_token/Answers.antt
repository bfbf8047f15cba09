use Rattle.std.proofs.Common.{ap, Err}
use Rattle.ra_model_read.proofs.NextToken.{goes_next, gives_token, refuses_missing, refuses_token}
use Rattle.ra_model_read.proofs.fields.read_token.Goals as goal

pub returns-in-Ok-Some-clause-gives : goal.returns-in-Ok-Some-clause-gives
returns-in-Ok-Some-clause-gives g c =
    gives_token _ _ _ _ _ (goes_next c.next.ensures) (rw c.in-Ok-Some.field-0-is at c.in-Ok-Some.ensures.answer)
    (rw c.in-Ok-Some.field-0-is at c.in-Ok-Some.ensures.one_more)

pub returns-in-Ok-None-clause-refuses : goal.returns-in-Ok-None-clause-refuses
returns-in-Ok-None-clause-refuses g c =
    refuses_missing _ _ _ _ (goes_next c.next.ensures) (rw c.in-Ok-None.field-0-is at c.in-Ok-None.ensures.answer)

pub returns-in-Err-clause-refuses : goal.returns-in-Err-clause-refuses
returns-in-Err-clause-refuses g c =
    refuses_token _ _ _ _ c.in-Err.fault _ c.model_fault.ensures (goes_next c.next.ensures) c.in-Err.ensures.answer
    (λ e. c.in-Err.ensures.fault (ap Err e))
