use Rattle.std.proofs.Common.{refl, arith}
use Rattle.ra_model_read.specs.Lists.{of_machine}
use Rattle.ra_model_read.specs.ModelText.{machine}
use Rattle.ra_model_read.proofs.Steps.{gives_bind, gives_then, refuses_first, refuses_next, refused_at_exit}
use Rattle.ra_model_read.proofs.Rows.{rows_pushed, row_within, row_fits, has_machine}
use Rattle.ra_model_read.proofs.machines.read_machine.Goals as goal

pub returns-in_err-neighbourhood-clause-refuses : goal.returns-in_err-neighbourhood-clause-refuses
unfolding machine
returns-in_err-neighbourhood-clause-refuses g c =
    refused_at_exit _ c.from_residual.ensures (refuses_first _ c.in_err-neighbourhood.ensures.refuses)

pub returns-in_err-location-clause-refuses : goal.returns-in_err-location-clause-refuses
unfolding machine
returns-in_err-location-clause-refuses g c = refused_at_exit _ c.from_residual-in_err-location.ensures
    (refuses_next _ c.in_ok-neighbourhood.ensures.gives (refuses_first _ c.in_err-location.ensures.refuses))

pub returns-in_err-read_numbers-clause-refuses : goal.returns-in_err-read_numbers-clause-refuses
unfolding machine
returns-in_err-read_numbers-clause-refuses g c = refused_at_exit _ c.from_residual-in_err-read_numbers.ensures
    (refuses_next _ c.in_ok-neighbourhood.ensures.gives
    (refuses_next _ c.in_ok-location.ensures.gives (refuses_first _ c.in_err-read_numbers.ensures.refuses)))

pub returns-in_err-read_numbers-2-clause-refuses : goal.returns-in_err-read_numbers-2-clause-refuses
unfolding machine
returns-in_err-read_numbers-2-clause-refuses g c = refused_at_exit _ c.from_residual-in_err-read_numbers-2.ensures
    (refuses_next _ c.in_ok-neighbourhood.ensures.gives
    (refuses_next _ c.in_ok-location.ensures.gives
    (refuses_next _ c.in_ok-read_numbers.ensures.gives
    (refuses_first _ c.in_err-read_numbers-2.ensures.refuses))))

pub returns-in_err-read_numbers-3-clause-refuses : goal.returns-in_err-read_numbers-3-clause-refuses
unfolding machine
returns-in_err-read_numbers-3-clause-refuses g c = refused_at_exit _ c.from_residual-in_err-read_numbers-3.ensures
    (refuses_next _ c.in_ok-neighbourhood.ensures.gives
    (refuses_next _ c.in_ok-location.ensures.gives
    (refuses_next _ c.in_ok-read_numbers.ensures.gives
    (refuses_next _ c.in_ok-read_numbers-2.ensures.gives
    (refuses_first _ c.in_err-read_numbers-3.ensures.refuses)))))

pub returns-clause-gives : goal.returns-clause-gives
unfolding machine
returns-clause-gives g c =
    gives_bind _ c.in_ok-neighbourhood.ensures.gives
    (gives_bind _ c.in_ok-location.ensures.gives
    (gives_bind _ c.in_ok-read_numbers.ensures.gives
    (gives_bind _ c.in_ok-read_numbers-2.ensures.gives
    (gives_then _ c.in_ok-read_numbers-3.ensures.gives (rw (rows_pushed of_machine _ _ _ c.push.ensures.items) refl)))))

pub returns-clause-has : goal.returns-clause-has
returns-clause-has g c = has_machine _ _ _ _ _ _ c.requires.has c.push.ensures.items c.in_ok-read_numbers.ensures.length
    c.in_ok-read_numbers-2.ensures.length c.in_ok-read_numbers-3.ensures.length c.push.ensures.room
    c.in_ok-read_numbers.ensures.room c.in_ok-read_numbers-2.ensures.room c.in_ok-read_numbers-3.ensures.room

pub read_numbers-requires-clause-room : goal.read_numbers-requires-clause-room
read_numbers-requires-clause-room g c =
    row_within _ _ _ _ _ c.requires.has.capacities c.requires.has.capacities_room c.requires.below

pub read_numbers-requires-2-clause-room : goal.read_numbers-requires-2-clause-room
read_numbers-requires-2-clause-room g c =
    row_within _ _ _ _ _ c.requires.has.safeties c.requires.has.safeties_room c.requires.below

pub read_numbers-requires-3-clause-room : goal.read_numbers-requires-3-clause-room
read_numbers-requires-3-clause-room g c =
    row_within _ _ _ _ _ c.requires.has.move_costs c.requires.has.move_costs_room c.requires.below

pub overflow_mul-row : goal.overflow_mul-row
overflow_mul-row g c =
    omega (
      arith,
      row_fits c.args.resource_count _ c.args.m c.requires.below c.requires.has.few
          (omega (arith, c.requires.has.few_resources)),
    )

pub overflow_mul-ways : goal.overflow_mul-ways
overflow_mul-ways g c =
    omega (arith, row_fits c.args.machine_count _ c.args.m c.requires.below c.requires.has.few c.requires.has.few)

pub read_numbers-requires-clause-fits : goal.read_numbers-requires-clause-fits
read_numbers-requires-clause-fits g c = row_fits c.args.resource_count _ c.args.m c.requires.below c.requires.has.few
    (omega (arith, c.requires.has.few_resources))

pub read_numbers-requires-2-clause-fits : goal.read_numbers-requires-2-clause-fits
read_numbers-requires-2-clause-fits g c = row_fits c.args.resource_count _ c.args.m c.requires.below c.requires.has.few
    (omega (arith, c.requires.has.few_resources))

pub read_numbers-requires-3-clause-fits : goal.read_numbers-requires-3-clause-fits
read_numbers-requires-3-clause-fits g c =
    row_fits c.args.machine_count _ c.args.m c.requires.below c.requires.has.few c.requires.has.few
