use Rattle.std.proofs.Common.{refl, arith}
use Rattle.ra_model_read.specs.Lists.{of_process}
use Rattle.ra_model_read.specs.ModelText.{process}
use Rattle.ra_model_read.proofs.Steps.{gives_bind, gives_then, refuses_first, refuses_next, refused_at_exit}
use Rattle.ra_model_read.proofs.Rows.{rows_pushed, row_within, has_process}
use Rattle.ra_model_read.proofs.processes.read_process.Goals as goal

pub returns-in_err-service-clause-refuses : goal.returns-in_err-service-clause-refuses
unfolding process
returns-in_err-service-clause-refuses g c =
    refused_at_exit _ c.from_residual.ensures (refuses_first _ c.in_err-service.ensures.refuses)

pub returns-in_err-read_numbers-clause-refuses : goal.returns-in_err-read_numbers-clause-refuses
unfolding process
returns-in_err-read_numbers-clause-refuses g c = refused_at_exit _ c.from_residual-in_err-read_numbers.ensures
    (refuses_next _ c.in_ok-service.ensures.gives (refuses_first _ c.in_err-read_numbers.ensures.refuses))

pub returns-in_err-move_cost-clause-refuses : goal.returns-in_err-move_cost-clause-refuses
unfolding process
returns-in_err-move_cost-clause-refuses g c = refused_at_exit _ c.from_residual-in_err-move_cost.ensures
    (refuses_next _ c.in_ok-service.ensures.gives
    (refuses_next _ c.in_ok-read_numbers.ensures.gives (refuses_first _ c.in_err-move_cost.ensures.refuses)))

pub returns-clause-gives : goal.returns-clause-gives
unfolding process
returns-clause-gives g c =
    gives_bind _ c.in_ok-service.ensures.gives
    (gives_bind _ c.in_ok-read_numbers.ensures.gives
    (gives_then _ c.in_ok-move_cost.ensures.gives (rw (rows_pushed of_process _ _ _ c.push.ensures.items) refl)))

pub returns-clause-has : goal.returns-clause-has
returns-clause-has g c =
    has_process _ _ _ _ _ _ _ c.requires.has c.push.ensures.items c.in_ok-read_numbers.ensures.length
    (omega (arith, c.in_ok-service.ensures.high)) c.push.ensures.room c.in_ok-read_numbers.ensures.room

pub read_numbers-requires-clause-room : goal.read_numbers-requires-clause-room
read_numbers-requires-clause-room g c =
    row_within _ _ _ _ _ c.requires.has.requirements c.requires.has.requirements_room c.requires.below
