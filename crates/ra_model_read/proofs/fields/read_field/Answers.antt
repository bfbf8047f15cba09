use Rattle.std.proofs.Common.{inl, inr, arith}
use Rattle.ra_model_read.specs.Formats.{field}
use Rattle.ra_model_read.proofs.Steps.{gives_then, refuses_first, refuses_next, refused_at_exit}
use Rattle.ra_model_read.proofs.Limited.{limited_fits, limited_refuses}
use Rattle.ra_model_read.proofs.fields.read_field.Goals as goal
use Rattle.ra_model_read.proofs.fields.read_field.Goals.{then-token-least-via-then-token-least}
use Rattle.ra_model_read.proofs.fields.read_field.Goals.{then-token-least-via-else-token-least+then-most-token}

pub returns-in_err-token-clause-refuses : goal.returns-in_err-token-clause-refuses
unfolding field
returns-in_err-token-clause-refuses g c =
    refused_at_exit _ c.from_residual.ensures (refuses_first _ c.in_err-token.ensures.refuses)

pub returns-then-token-least-clause-refuses : goal.returns-then-token-least-clause-refuses
unfolding field
returns-then-token-least-clause-refuses g c =
    refuses_next _ c.in_ok-token.ensures.gives (limited_refuses _ _ _ _ _ c.in_ok-token.ensures.gives.goes.stands
    (elim c.then-token-least.branch [
      | then-token-least-via-then-token-least w ↦ inl w.if-token-least.true
      | then-token-least-via-else-token-least+then-most-token w ↦ inr w.if-most-token.true
    ]))

pub returns-clause-gives : goal.returns-clause-gives
unfolding field
returns-clause-gives g c = gives_then _ c.in_ok-token.ensures.gives (limited_fits _ _ _ _ (omega arith) (omega arith))
