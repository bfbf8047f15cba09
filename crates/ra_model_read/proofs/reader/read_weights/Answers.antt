use Rattle.std.proofs.Common.{refl}
use Rattle.ra_model_read.specs.ModelText.{weights}
use Rattle.ra_model_read.proofs.Steps.{gives_bind, gives_then, refuses_first, refuses_next, refused_at_exit}
use Rattle.ra_model_read.proofs.reader.read_weights.Goals as goal

pub returns-in_err-process-clause-refuses : goal.returns-in_err-process-clause-refuses
unfolding weights
returns-in_err-process-clause-refuses g c =
    refused_at_exit _ c.from_residual.ensures (refuses_first _ c.in_err-process.ensures.refuses)

pub returns-in_err-service-clause-refuses : goal.returns-in_err-service-clause-refuses
unfolding weights
returns-in_err-service-clause-refuses g c = refused_at_exit _ c.from_residual-in_err-service.ensures
    (refuses_next _ c.in_ok-process.ensures.gives (refuses_first _ c.in_err-service.ensures.refuses))

pub returns-in_err-machine-clause-refuses : goal.returns-in_err-machine-clause-refuses
unfolding weights
returns-in_err-machine-clause-refuses g c = refused_at_exit _ c.from_residual-in_err-machine.ensures
    (refuses_next _ c.in_ok-process.ensures.gives
    (refuses_next _ c.in_ok-service.ensures.gives (refuses_first _ c.in_err-machine.ensures.refuses)))

pub returns-clause-gives : goal.returns-clause-gives
unfolding weights
returns-clause-gives g c =
    gives_bind _ c.in_ok-process.ensures.gives
    (gives_bind _ c.in_ok-service.ensures.gives (gives_then _ c.in_ok-machine.ensures.gives refl))
