-- What is known of a run is what its report asks for, and what the report says.
use Rattle.ra_io.specs.Outside.{writing, Took}
use Rattle.ra_model.proofs.BrokenLemmas.{feasible_from_unbroken}
use Rattle.ra_token.proofs.ToldLemmas.{at_exit}
use Rattle.ra_jobs.specs.Output.{BrokeOff}
use Rattle.ra_run.proofs.SolveLemmas.{run_told, best_told, bound_told}
use Rattle.ra_run.proofs.solve.run_over.Goals as goal

pub report-ended-requires-clause-best : goal.report-ended-requires-clause-best
report-ended-requires-clause-best g c κs within = best_told _ _ c.solve-run.ensures

pub report-ended-requires-clause-bound : goal.report-ended-requires-clause-bound
report-ended-requires-clause-bound g c κs within =
    let is = rw (c.in_ok-prepared.ensures.instance, c.in_ok-prepared.ensures.initial, c.in_ok-prepared.ensures.lots) at
    c.solve-run.ensures in
    bound_told _ c.solve-run.result
    c.in_ok-bound.bound is c.in_ok-bound.ensures

pub returns-clause-printed : goal.returns-clause-printed
returns-clause-printed g c =
    let o = c.args.beginning.now in
    let is = rw (c.in_ok-prepared.ensures.instance, c.in_ok-prepared.ensures.initial, c.in_ok-prepared.ensures.lots) at
    c.solve-run.ensures in
    run_told _ c.solve-run.result
    (Took (writing g.O.Sink c.args.out.now c.report-ended.new.out)) is
    (feasible_from_unbroken o.inst.now.tables o.initial.now.items o.initial.now.items o.inst.now.well_formed o.fits
    o.unbroken) c.in_ok-ended.ensures.whole

pub returns-in_err-ended-clause-refused : goal.returns-in_err-ended-clause-refused
returns-in_err-ended-clause-refused g c =
    let o = c.args.beginning.now in
    let is = rw (c.in_ok-prepared.ensures.instance, c.in_ok-prepared.ensures.initial, c.in_ok-prepared.ensures.lots) at
    c.solve-run.ensures in
    at_exit _ _ _ c.from_residual-in_err-ended.ensures
    (run_told _ c.solve-run.result
    (BrokeOff (writing g.O.Sink c.args.out.now c.report-ended.new.out)) is
    (feasible_from_unbroken o.inst.now.tables o.initial.now.items o.initial.now.items o.inst.now.well_formed o.fits
    o.unbroken) c.in_err-ended.ensures.part)
