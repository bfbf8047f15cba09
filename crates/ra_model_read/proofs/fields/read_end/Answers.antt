use Rattle.std.proofs.Common.{ap, Ok, Err}
use Rattle.ra_model_read.proofs.NextToken.{goes_next, gives_end, refuses_extra, refuses_end}
use Rattle.ra_model_read.proofs.fields.read_end.Goals as goal

pub returns-in-Ok-Some-clause-refuses : goal.returns-in-Ok-Some-clause-refuses
returns-in-Ok-Some-clause-refuses g c =
    refuses_extra _ _ _ (goes_next c.next.ensures) (rw c.in-Ok-Some.field-0-is at c.in-Ok-Some.ensures.answer)

pub returns-in-Ok-None-clause-gives : goal.returns-in-Ok-None-clause-gives
returns-in-Ok-None-clause-gives g c =
    gives_end _ _ (goes_next c.next.ensures) (c.in-Ok-None.ensures.ended (ap Ok c.in-Ok-None.field-0-is))
    (rw c.in-Ok-None.field-0-is at c.in-Ok-None.ensures.answer)

pub returns-in-Err-clause-refuses : goal.returns-in-Err-clause-refuses
returns-in-Err-clause-refuses g c =
    refuses_end _ _ c.in-Err.fault _ c.model_fault.ensures (goes_next c.next.ensures) c.in-Err.ensures.answer
    (λ e. c.in-Err.ensures.fault (ap Err e))
