use Rattle.std.proofs.Common.{refl}
use Rattle.ra_model_read.specs.Formats.{any}
use Rattle.ra_model_read.proofs.Steps.{gives_then, refuses_first, refused_at_exit}
use Rattle.ra_model_read.proofs.fields.read_any.Goals as goal

pub returns-in_err-token-clause-refuses : goal.returns-in_err-token-clause-refuses
unfolding any
returns-in_err-token-clause-refuses g c =
    refused_at_exit _ c.from_residual.ensures (refuses_first _ c.in_err-token.ensures.refuses)

pub returns-clause-gives : goal.returns-clause-gives
unfolding any
returns-clause-gives g c = gives_then _ c.in_ok-token.ensures.gives refl
