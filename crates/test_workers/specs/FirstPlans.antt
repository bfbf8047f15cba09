-- Plans of first proposals at the start of a journal.
use Rattle.std.specs.Prelude.{◌≡◌, ℕ}
use Rattle.ra_draws.specs.Shown.{drawing_in}
use Rattle.ra_model.specs.Situations.{situation}
use Rattle.ra_moves.specs.declared.verdicts.Plan.{Plan}
use Rattle.ra_moves.specs.Options.{plan_of}
use Rattle.ra_moves.specs.Weighing.{weighed_of}
use Rattle.ra_journal.specs.Entries.{words, allowed}
use Rattle.ra_journal.specs.Openings.{Opening}

-- a plan of worker w's first proposal, at the start
pub record IsFirstPlan (o : Opening) (w : ℕ) (plan : Plan) : Type 0 where
  pub place : plan.q ≡ 0
  pub number : plan.k ≡ 0
  pub planned : plan.mv ≡ plan_of (situation o.tables o.start o.start) (words o.lots w 0)
      (drawing_in o.lots) (allowed o.lots w 0)
  pub weighing : plan.weighed ≡ weighed_of (situation o.tables o.start o.start) plan.mv.steps
