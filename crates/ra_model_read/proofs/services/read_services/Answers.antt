use Rattle.std.proofs.Common.{sym, subst, arith}
use Rattle.ra_model_read.specs.ModelText.{services}
use Rattle.ra_model_read.proofs.Steps.{gives_bind, gives_more, gives_start, gives_all, refuses_first, refuses_next}
use Rattle.ra_model_read.proofs.Steps.{refuses_memory, refuses_step, refused_at_exit}
use Rattle.ra_model_read.specs.Reading.{FormatRefuses}
use Rattle.ra_model_read.proofs.Rows.{no_services, all_services}
use Rattle.ra_model_read.proofs.services.read_services.Goals as goal

pub returns-in_err-count-clause-refuses : goal.returns-in_err-count-clause-refuses
unfolding services
returns-in_err-count-clause-refuses g c =
    refused_at_exit _ c.from_residual.ensures (refuses_first _ c.in_err-count.ensures.refuses)

pub returns-in_err-tables-clause-refuses : goal.returns-in_err-tables-clause-refuses
returns-in_err-tables-clause-refuses g c = refused_at_exit _ c.from_residual-in_err-tables.ensures
    (subst (FormatRefuses _ _ _) (sym c.in_err-tables.ensures.memory)
    (refuses_memory _ c.in_ok-count.ensures.gives.goes))

pub loop-s-init : goal.loop-s-init
loop-s-init g c = (
  gives_start _ c.in_ok-count.ensures.gives.goes.stands (no_services _ _ c.in_ok-tables.ensures.none),
  c.in_ok-tables.ensures.none,
)

pub returns-in_err-read_service-clause-refuses : goal.returns-in_err-read_service-clause-refuses
unfolding services
returns-in_err-read_service-clause-refuses g c = refused_at_exit _ c.from_residual-in_err-read_service.ensures
    (refuses_next _ c.in_ok-count.ensures.gives
    (refuses_step _ _ _ _ (omega arith) c.loop-s.invariant.0 c.in_err-read_service.ensures.refuses))

pub loop-s-preserved : goal.loop-s-preserved
loop-s-preserved g c =
    (gives_more _ _ _ c.loop-s.invariant.0 c.in_ok-read_service.ensures.gives, c.in_ok-read_service.ensures.has)

pub returns-clause-gives : goal.returns-clause-gives
unfolding services
returns-clause-gives g c =
    gives_bind _ c.in_ok-count.ensures.gives
    (gives_all _ _ _ _ c.loop-s-test.false c.loop-s.auto.s-end c.loop-s.invariant.0)

pub returns-clause-shape : goal.returns-clause-shape
returns-clause-shape g c = all_services _ _ _ c.loop-s.invariant.1 c.loop-s-test.false c.loop-s.auto.s-end
    c.in_ok-count.ensures.low c.in_ok-count.ensures.high
