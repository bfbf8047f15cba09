-- Weighings of the moves of an assignment.
use Rattle.std.specs.Prelude.{◌≡◌, List}
use Rattle.ra_moves.specs.declared.steps.Step.{Step}
use Rattle.ra_moves.specs.declared.verdicts.Weighed.{Weighed}
use Rattle.ra_moves.specs.Moving.{IsOffered}
use Rattle.ra_moves.specs.Weighing.{weighed_of}
use Rattle.ra_model.specs.Situations.{Situation}

-- this is the weighing of some move
pub record IsWeighing (st : Situation) (weighed : Weighed) : Type 0 where
  pub steps : List Step
  pub offered : IsOffered st.tables st.here steps
  pub is : weighed ≡ weighed_of st steps
