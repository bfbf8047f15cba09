use Rattle.std.proofs.Common.{arith}
use Rattle.ra_token.proofs.ToldLemmas.{at_exit, went_on, refuses_as, refuses_next}
use Rattle.ra_edit_read.proofs.EditLaws.{TakesTwo, TakesThree, at_machine, at_requirements, at_cost, stop_says}
use Rattle.ra_edit_read.proofs.EditLaws.{at_added}
use Rattle.ra_edit_read.specs.EditTexts.{added_test}
use Rattle.ra_edit_read.proofs.reading.read_added.Goals as goal

pub returns-in_err-service-clause-refuses : goal.returns-in_err-service-clause-refuses
unfolding added_test
returns-in_err-service-clause-refuses g c =
    at_exit _ _ _ c.from_residual.ensures
    (refuses_as c.in_err-service.ensures.refuses (λ bytes x says. stop_says _ _ _ (rw c.services.ensures at says)))

pub returns-in_err-machine-clause-refuses : goal.returns-in_err-machine-clause-refuses
returns-in_err-machine-clause-refuses g c =
    at_exit _ _ _ c.from_residual-in_err-machine.ensures
    (refuses_next c.in_ok-service.ensures.gives c.in_err-machine.ensures.refuses
    (λ bytes x y one says. at_machine bytes _ _ _ _ x y _ _ c.services.ensures c.machines.ensures one
    c.in_ok-service.ensures.below says))

pub returns-in_err-take_numbers-clause-refuses : goal.returns-in_err-take_numbers-clause-refuses
returns-in_err-take_numbers-clause-refuses g c =
    at_exit _ _ _ c.from_residual-in_err-take_numbers.ensures
    (refuses_next
    (went_on {R =
    λ bytes x z. TakesTwo bytes c.in_ok-service.service c.in_ok-machine.machine x z} c.in_ok-service.ensures.gives
    c.in_ok-machine.ensures.gives (λ bytes x y z one two. record { middle = y; one = one; two = two }))
    c.in_err-take_numbers.ensures.refuses
    (λ bytes x z two says. at_requirements _ _ _ c.resources.ensures
    (omega (arith, c.services.ensures, c.in_ok-service.ensures.below))
    (omega (arith, c.machines.ensures, c.in_ok-machine.ensures.below)) two says))

pub returns-in_err-move_cost-clause-refuses : goal.returns-in_err-move_cost-clause-refuses
returns-in_err-move_cost-clause-refuses g c =
    let s = c.in_ok-service.service in
    let m = c.in_ok-machine.machine in
    let two = went_on {R = λ bytes x z. TakesTwo bytes s m x z} c.in_ok-service.ensures.gives
    c.in_ok-machine.ensures.gives (λ bytes x y z one two. record { middle = y; one = one; two = two }) in
    at_exit _ _ _ c.from_residual-in_err-move_cost.ensures
    (refuses_next
    (went_on {R =
    λ bytes x u.
    TakesThree bytes c.resources.result s m c.args.requirements.now.items c.take_numbers.new.values.items x u} two
    c.in_ok-take_numbers.ensures.gives
    (λ bytes x z u h three. record { middle = z; two = h; three = three }))
    c.in_err-move_cost.ensures.refuses
    (λ bytes x u h says. at_cost _ _ _ c.resources.ensures
    (omega (arith, c.services.ensures, c.in_ok-service.ensures.below))
    (omega (arith, c.machines.ensures, c.in_ok-machine.ensures.below)) h says))

pub returns-clause-gives : goal.returns-clause-gives
returns-clause-gives g c =
    let s = c.in_ok-service.service in
    let m = c.in_ok-machine.machine in
    let two = went_on {R = λ bytes x z. TakesTwo bytes s m x z} c.in_ok-service.ensures.gives
    c.in_ok-machine.ensures.gives (λ bytes x y z one two. record { middle = y; one = one; two = two }) in
    let three = went_on {R =
    λ bytes x u.
    TakesThree bytes c.resources.result s m c.args.requirements.now.items c.take_numbers.new.values.items x u} two
    c.in_ok-take_numbers.ensures.gives (λ bytes x z u h three. record { middle = z; two = h; three = three }) in
    went_on three c.in_ok-move_cost.ensures.gives
    (λ bytes x u v h four. at_added c.resources.ensures
    (omega (arith, c.services.ensures, c.in_ok-service.ensures.below))
    (omega (arith, c.machines.ensures, c.in_ok-machine.ensures.below)) h four)

pub returns-clause-row : goal.returns-clause-row
returns-clause-row g c = record {
  number = cc (c.in_ok-take_numbers.ensures.number, c.resources.ensures);
  room = c.take_numbers.ensures.room;
  fits = (
    omega (arith, c.services.ensures, c.in_ok-service.ensures.below),
    omega (arith, c.machines.ensures, c.in_ok-machine.ensures.below),
  );
}

pub take_numbers-requires-clause-room : goal.take_numbers-requires-clause-room
take_numbers-requires-clause-room g c = rw c.resources.ensures c.requires.room
