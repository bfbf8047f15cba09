use Rattle.std.proofs.Common.{refl}
use Rattle.ra_model_read.specs.ModelText.{rest}
use Rattle.ra_model_read.proofs.Steps.{gives_bind, gives_then, refuses_first, refuses_next, refused_at_exit}
use Rattle.ra_model_read.proofs.reader.read_rest.Goals as goal

pub returns-in_err-processes-clause-refuses : goal.returns-in_err-processes-clause-refuses
unfolding rest
returns-in_err-processes-clause-refuses g c =
    refused_at_exit _ c.from_residual.ensures (refuses_first _ c.in_err-processes.ensures.refuses)

pub returns-in_err-balances-clause-refuses : goal.returns-in_err-balances-clause-refuses
unfolding rest
returns-in_err-balances-clause-refuses g c = refused_at_exit _ c.from_residual-in_err-balances.ensures
    (refuses_next _ c.in_ok-processes.ensures.gives (refuses_first _ c.in_err-balances.ensures.refuses))

pub returns-in_err-weights-clause-refuses : goal.returns-in_err-weights-clause-refuses
unfolding rest
returns-in_err-weights-clause-refuses g c = refused_at_exit _ c.from_residual-in_err-weights.ensures
    (refuses_next _ c.in_ok-processes.ensures.gives
    (refuses_next _ c.in_ok-balances.ensures.gives (refuses_first _ c.in_err-weights.ensures.refuses)))

pub returns-in_err-read_end-clause-refuses : goal.returns-in_err-read_end-clause-refuses
unfolding rest
returns-in_err-read_end-clause-refuses g c = refused_at_exit _ c.from_residual-in_err-read_end.ensures
    (refuses_next _ c.in_ok-processes.ensures.gives
    (refuses_next _ c.in_ok-balances.ensures.gives
    (refuses_next _ c.in_ok-weights.ensures.gives (refuses_first _ c.in_err-read_end.ensures.refuses))))

pub returns-clause-gives : goal.returns-clause-gives
unfolding rest
returns-clause-gives g c =
    gives_bind _ c.in_ok-processes.ensures.gives
    (gives_bind _ c.in_ok-balances.ensures.gives
    (gives_bind _ c.in_ok-weights.ensures.gives (gives_then _ c.in_ok-read_end.ensures.gives refl)))

pub returns-clause-shape : goal.returns-clause-shape
returns-clause-shape g c = record {
  processes = c.in_ok-processes.ensures.shape;
  few = c.in_ok-balances.ensures.few;
  among = c.in_ok-balances.ensures.among;
}
