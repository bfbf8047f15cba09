use Rattle.ra_token.proofs.ToldLemmas.{at_exit, went_on, refuses_as, refuses_next}
use Rattle.ra_edit_read.proofs.EditLaws.{takes_resized, stop_says, resized_requirements}
use Rattle.ra_edit_read.specs.EditTexts.{resized_test}
use Rattle.ra_edit_read.proofs.reading.read_resized.Goals as goal

pub returns-in_err-process-clause-refuses : goal.returns-in_err-process-clause-refuses
unfolding resized_test
returns-in_err-process-clause-refuses g c =
    at_exit _ _ _ c.from_residual.ensures
    (refuses_as c.in_err-process.ensures.refuses (λ bytes x says. stop_says _ _ _ says))

pub returns-in_err-take_numbers-clause-refuses : goal.returns-in_err-take_numbers-clause-refuses
returns-in_err-take_numbers-clause-refuses g c = at_exit _ _ _ c.from_residual-in_err-take_numbers.ensures
    (refuses_next c.in_ok-process.ensures.gives c.in_err-take_numbers.ensures.refuses
    (λ bytes x y one says. resized_requirements _ _ _ one
    (rw c.resources.ensures at says)))

pub returns-clause-gives : goal.returns-clause-gives
returns-clause-gives g c = went_on c.in_ok-process.ensures.gives c.in_ok-take_numbers.ensures.gives
    (λ bytes x y z one two. takes_resized one (rw c.resources.ensures at two))
