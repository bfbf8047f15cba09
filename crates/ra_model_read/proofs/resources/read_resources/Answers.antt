use Rattle.std.proofs.Common.{refl, arith}
use Rattle.ra_model_read.specs.ModelText.{resources}
use Rattle.ra_model_read.proofs.Steps.{gives_bind, gives_none, gives_more, gives_all, refuses_first, refuses_next}
use Rattle.ra_model_read.proofs.Steps.{refuses_memory, refuses_step, refused_at_exit}
use Rattle.ra_model_read.proofs.resources.read_resources.Goals as goal

pub returns-in_err-count-clause-refuses : goal.returns-in_err-count-clause-refuses
unfolding resources
returns-in_err-count-clause-refuses g c =
    refused_at_exit _ c.from_residual.ensures (refuses_first _ c.in_err-count.ensures.refuses)

pub returns-in_err-rows-clause-refuses : goal.returns-in_err-rows-clause-refuses
returns-in_err-rows-clause-refuses g c =
    refused_at_exit _ c.from_residual-in_err-rows.ensures (refuses_memory _ c.in_ok-count.ensures.gives.goes)

pub loop-r-init : goal.loop-r-init
loop-r-init g c =
    rw c.in_ok-rows.ensures.items (
      gives_none _ _ _ c.in_ok-count.ensures.gives.goes.stands,
      refl,
      c.in_ok-rows.ensures.room,
    )

pub returns-in_err-read_resource-clause-refuses : goal.returns-in_err-read_resource-clause-refuses
unfolding resources
returns-in_err-read_resource-clause-refuses g c = refused_at_exit _ c.from_residual-in_err-read_resource.ensures
    (refuses_next _ c.in_ok-count.ensures.gives
    (refuses_step _ _ _ _ (omega arith) c.loop-r.invariant.0 c.in_err-read_resource.ensures.refuses))

pub loop-r-preserved : goal.loop-r-preserved
loop-r-preserved g c = (
  gives_more _ _ _ c.loop-r.invariant.0 c.in_ok-read_resource.ensures.gives,
  omega (arith, c.in_ok-read_resource.ensures.length),
  omega (arith, c.in_ok-read_resource.ensures.room),
)

pub returns-clause-gives : goal.returns-clause-gives
unfolding resources
returns-clause-gives g c =
    gives_bind _ c.in_ok-count.ensures.gives
    (gives_all _ _ _ _ c.loop-r-test.false c.loop-r.auto.r-end c.loop-r.invariant.0)
