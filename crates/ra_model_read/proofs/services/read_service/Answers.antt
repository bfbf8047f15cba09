use Rattle.std.proofs.Common.{refl, arith}
use Rattle.ra_model_read.specs.Lists.{service_numbers_of}
use Rattle.ra_model_read.specs.ModelText.{service}
use Rattle.ra_model_read.proofs.Steps.{gives_bind, gives_then, refuses_first, refuses_next, refused_at_exit}
use Rattle.ra_model_read.proofs.Rows.{rows_pushed, has_service}
use Rattle.ra_model_read.proofs.services.read_service.Goals as goal

pub returns-in_err-spread_min-clause-refuses : goal.returns-in_err-spread_min-clause-refuses
unfolding service
returns-in_err-spread_min-clause-refuses g c =
    refused_at_exit _ c.from_residual.ensures (refuses_first _ c.in_err-spread_min.ensures.refuses)

pub returns-in_err-count-clause-refuses : goal.returns-in_err-count-clause-refuses
unfolding service
returns-in_err-count-clause-refuses g c = refused_at_exit _ c.from_residual-in_err-count.ensures
    (refuses_next _ c.in_ok-spread_min.ensures.gives
    (refuses_first _ (rw c.len.ensures.value at c.in_err-count.ensures.refuses)))

pub returns-in_err-read_dependencies-clause-refuses : goal.returns-in_err-read_dependencies-clause-refuses
unfolding service
returns-in_err-read_dependencies-clause-refuses g c = refused_at_exit _ c.from_residual-in_err-read_dependencies.ensures
    (refuses_next _ c.in_ok-spread_min.ensures.gives
    (refuses_next _ (rw c.len.ensures.value at c.in_ok-count.ensures.gives)
    (refuses_first _ c.in_err-read_dependencies.ensures.refuses)))

pub returns-clause-gives : goal.returns-clause-gives
unfolding service
returns-clause-gives g c =
    gives_bind _ c.in_ok-spread_min.ensures.gives
    (gives_bind _ (rw c.len.ensures.value at c.in_ok-count.ensures.gives)
    (gives_then _ c.in_ok-read_dependencies.ensures.gives
    (rw (rows_pushed service_numbers_of _ _ _ c.push.ensures.items, c.len-dependency_end.ensures.value) refl)))

pub returns-clause-has : goal.returns-clause-has
returns-clause-has g c = has_service _ _ _ _ _ c.requires.has c.push.ensures.items c.len-dependency_end.ensures.value
    (omega (arith, c.in_ok-read_dependencies.ensures.length)) c.push.ensures.room c.in_ok-read_dependencies.ensures.has
