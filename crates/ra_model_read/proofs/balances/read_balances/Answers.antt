use Rattle.std.proofs.Common.{arith}
use Rattle.ra_model_read.specs.ModelText.{balances}
use Rattle.ra_model_read.proofs.Steps.{gives_bind, gives_none, gives_more, gives_all, refuses_first, refuses_next}
use Rattle.ra_model_read.proofs.Steps.{refuses_memory, refuses_step, refused_at_exit}
use Rattle.ra_model_read.proofs.Rows.{has_no_balance}
use Rattle.ra_model_read.proofs.balances.read_balances.Goals as goal

pub returns-in_err-count-clause-refuses : goal.returns-in_err-count-clause-refuses
unfolding balances
returns-in_err-count-clause-refuses g c =
    refused_at_exit _ c.from_residual.ensures (refuses_first _ c.in_err-count.ensures.refuses)

pub returns-in_err-rows-clause-refuses : goal.returns-in_err-rows-clause-refuses
returns-in_err-rows-clause-refuses g c =
    refused_at_exit _ c.from_residual-in_err-rows.ensures (refuses_memory _ c.in_ok-count.ensures.gives.goes)

pub loop-b-init : goal.loop-b-init
loop-b-init g c = (
  rw c.in_ok-rows.ensures.items (gives_none _ _ _ c.in_ok-count.ensures.gives.goes.stands),
  c.in_ok-rows.ensures.room,
  has_no_balance _ _ c.in_ok-rows.ensures.items,
)

pub returns-in_err-read_balance-clause-refuses : goal.returns-in_err-read_balance-clause-refuses
unfolding balances
returns-in_err-read_balance-clause-refuses g c = refused_at_exit _ c.from_residual-in_err-read_balance.ensures
    (refuses_next _ c.in_ok-count.ensures.gives
    (refuses_step _ _ _ _ (omega arith) c.loop-b.invariant.0 c.in_err-read_balance.ensures.refuses))

pub loop-b-preserved : goal.loop-b-preserved
loop-b-preserved g c = (
  gives_more _ _ _ c.loop-b.invariant.0 c.in_ok-read_balance.ensures.gives,
  omega (arith, c.in_ok-read_balance.ensures.room),
  c.in_ok-read_balance.ensures.has,
)

pub returns-clause-gives : goal.returns-clause-gives
unfolding balances
returns-clause-gives g c =
    gives_bind _ c.in_ok-count.ensures.gives
    (gives_all _ _ _ _ c.loop-b-test.false c.loop-b.auto.b-end c.loop-b.invariant.0)
