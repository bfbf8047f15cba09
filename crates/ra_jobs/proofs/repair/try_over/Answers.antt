-- What is written is the text of the run.
use Rattle.std.proofs.Common.{Some, None, refl, ◌∙◌}
use Rattle.ra_io.specs.Outside.{writing, Took}
use Rattle.ra_token.proofs.ToldLemmas.{at_exit}
use Rattle.ra_jobs.proofs.RepairLemmas.{run_tried}
use Rattle.ra_jobs.proofs.repair.try_over.Goals as goal

pub returns-in-Some-clause-refused : goal.returns-in-Some-clause-refused
returns-in-Some-clause-refused g c =
    run_tried c.args.inst.now c.args.initial.now c.assignment.result.now c.args.lot.now c.run.new.self
    c.first_broken-broken.result (Some c.in-Some.cause)
    (Took (writing g.O.Sink c.args.out.now c.write_repair-ended.new.sink)) c.run.ensures.run
    (c.run.ensures.instance ∙ c.in_ok-repair.ensures.instance) (c.run.ensures.initial ∙ c.in_ok-repair.ensures.initial)
    (c.run.ensures.lot ∙ c.in_ok-repair.ensures.lot) c.assignment.ensures.value c.first_broken-broken.ensures.first
    c.first_broken-broken.ensures.feasible.0 c.in-Some.is c.in_ok-ended.ensures.whole

pub returns-in-None-clause-printed : goal.returns-in-None-clause-printed
returns-in-None-clause-printed g c =
    run_tried c.args.inst.now c.args.initial.now c.assignment.result.now c.args.lot.now c.run.new.self
    c.first_broken-broken.result None
    (Took (writing g.O.Sink c.args.out.now c.write_repair-ended.new.sink)) c.run.ensures.run
    (c.run.ensures.instance ∙ c.in_ok-repair.ensures.instance) (c.run.ensures.initial ∙ c.in_ok-repair.ensures.initial)
    (c.run.ensures.lot ∙ c.in_ok-repair.ensures.lot) c.assignment.ensures.value c.first_broken-broken.ensures.first
    c.first_broken-broken.ensures.feasible.0 c.in-None.is c.in_ok-ended.ensures.whole

pub returns-in_err-ended-clause-refused : goal.returns-in_err-ended-clause-refused
returns-in_err-ended-clause-refused g c =
    at_exit _ _ _ c.from_residual-in_err-ended.ensures (
      c.first_broken-broken.result,
      run_tried c.args.inst.now c.args.initial.now c.assignment.result.now c.args.lot.now c.run.new.self
          c.first_broken-broken.result c.first_broken-broken.result
          _ c.run.ensures.run
          (c.run.ensures.instance ∙ c.in_ok-repair.ensures.instance) (c.run.ensures.initial
          ∙ c.in_ok-repair.ensures.initial)
          (c.run.ensures.lot ∙ c.in_ok-repair.ensures.lot)
          c.assignment.ensures.value c.first_broken-broken.ensures.first
          c.first_broken-broken.ensures.feasible.0 refl c.in_err-ended.ensures.part,
    )
