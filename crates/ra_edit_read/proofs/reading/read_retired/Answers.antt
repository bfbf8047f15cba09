use Rattle.ra_token.proofs.ToldLemmas.{went_as}
use Rattle.ra_edit_read.proofs.EditLaws.{takes_retired}
use Rattle.ra_edit_read.proofs.reading.read_retired.Goals as goal

pub returns-clause-gives : goal.returns-clause-gives
returns-clause-gives g c =
    went_as c.in_ok-process.ensures.gives
    (λ bytes x y one. takes_retired one (rw c.resources.ensures at c.push_zeros.ensures.items))
