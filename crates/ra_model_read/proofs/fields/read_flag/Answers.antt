use Rattle.std.proofs.Common.{arith}
use Rattle.ra_model_read.specs.Formats.{flag}
use Rattle.ra_model_read.proofs.Steps.{gives_then, refuses_first, refuses_next, refused_at_exit}
use Rattle.ra_model_read.proofs.Limited.{flag_off, flag_on, flag_refuses}
use Rattle.ra_model_read.proofs.fields.read_flag.Goals as goal

pub returns-in_err-token-clause-refuses : goal.returns-in_err-token-clause-refuses
unfolding flag
returns-in_err-token-clause-refuses g c =
    refused_at_exit _ c.from_residual.ensures (refuses_first _ c.in_err-token.ensures.refuses)

pub returns-in-0-clause-gives : goal.returns-in-0-clause-gives
unfolding flag
returns-in-0-clause-gives g c = gives_then _ c.in_ok-token.ensures.gives (flag_off _ _ (omega arith))

pub returns-in-1-clause-gives : goal.returns-in-1-clause-gives
unfolding flag
returns-in-1-clause-gives g c = gives_then _ c.in_ok-token.ensures.gives (flag_on _ _ (omega arith))

pub returns-in_default-clause-refuses : goal.returns-in_default-clause-refuses
unfolding flag
returns-in_default-clause-refuses g c =
    refuses_next _ c.in_ok-token.ensures.gives
    (flag_refuses _ _ c.in_ok-token.ensures.gives.goes.stands (omega arith) (omega arith))
