-- An entry that is taken into a replica.
use Rattle.std.specs.Prelude.{◌≡◌, ℕ, List}
use Rattle.ra_model.specs.Situations.{Situation}
use Rattle.ra_moves.specs.declared.steps.Step.{Step}
use Rattle.ra_moves.specs.declared.verdicts.Verdict.{Verdict}
use Rattle.ra_moves.specs.Judging.{judge}
use Rattle.ra_moves.specs.Moving.{IsOffered}

-- a move can be weighed, and its verdict is the judge's, for some allowed rise of the cost
pub record IsJudged (st : Situation) (steps : List Step) (verdict : Verdict) : Type 0 where
  pub allowed : ℕ
  pub offered : IsOffered st.tables st.here steps
  pub judged : verdict ≡ judge st steps allowed
