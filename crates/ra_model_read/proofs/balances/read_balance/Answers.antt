use Rattle.std.proofs.Common.{sym, ap, arith}
use Rattle.ra_model_read.specs.Formats.{pure}
use Rattle.ra_model_read.specs.Lists.{of_balance}
use Rattle.ra_model_read.specs.ModelText.{balance}
use Rattle.ra_model_read.proofs.Steps.{gives_bind, gives_then, refuses_first, refuses_next, refused_at_exit}
use Rattle.ra_model_read.proofs.Rows.{rows_pushed, has_balance}
use Rattle.ra_model_read.proofs.balances.read_balance.Goals as goal

pub returns-in_err-first-clause-refuses : goal.returns-in_err-first-clause-refuses
unfolding balance
returns-in_err-first-clause-refuses g c =
    refused_at_exit _ c.from_residual.ensures (refuses_first _ c.in_err-first.ensures.refuses)

pub returns-in_err-second-clause-refuses : goal.returns-in_err-second-clause-refuses
unfolding balance
returns-in_err-second-clause-refuses g c = refused_at_exit _ c.from_residual-in_err-second.ensures
    (refuses_next _ c.in_ok-first.ensures.gives (refuses_first _ c.in_err-second.ensures.refuses))

pub returns-in_err-target-clause-refuses : goal.returns-in_err-target-clause-refuses
unfolding balance
returns-in_err-target-clause-refuses g c = refused_at_exit _ c.from_residual-in_err-target.ensures
    (refuses_next _ c.in_ok-first.ensures.gives
    (refuses_next _ c.in_ok-second.ensures.gives (refuses_first _ c.in_err-target.ensures.refuses)))

pub returns-in_err-weight-clause-refuses : goal.returns-in_err-weight-clause-refuses
unfolding balance
returns-in_err-weight-clause-refuses g c = refused_at_exit _ c.from_residual-in_err-weight.ensures
    (refuses_next _ c.in_ok-first.ensures.gives
    (refuses_next _ c.in_ok-second.ensures.gives
    (refuses_next _ c.in_ok-target.ensures.gives (refuses_first _ c.in_err-weight.ensures.refuses))))

pub returns-clause-gives : goal.returns-clause-gives
unfolding balance
returns-clause-gives g c =
    gives_bind _ c.in_ok-first.ensures.gives
    (gives_bind _ c.in_ok-second.ensures.gives
    (gives_bind _ c.in_ok-target.ensures.gives
    (gives_then _ c.in_ok-weight.ensures.gives (ap pure (sym (rows_pushed of_balance _ _ _ c.push.ensures.items))))))

pub returns-clause-has : goal.returns-clause-has
returns-clause-has g c = has_balance _ _ _ _ _ c.requires.has c.push.ensures.items
    (omega (arith, c.in_ok-first.ensures.high)) (omega (arith, c.in_ok-second.ensures.high))

pub push-requires : goal.push-requires
push-requires g c = omega (arith, c.requires.room, c.requires.has.rows)
