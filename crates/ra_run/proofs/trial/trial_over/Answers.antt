-- What is known of a run is what its summary asks for, and what the summary says.
use Rattle.ra_io.specs.Outside.{writing, Took}
use Rattle.ra_token.proofs.ToldLemmas.{at_exit}
use Rattle.ra_jobs.specs.Output.{BrokeOff}
use Rattle.ra_run.proofs.SolveLemmas.{best_told, bound_told}
use Rattle.ra_run.proofs.TrialLemmas.{summarized}
use Rattle.ra_run.proofs.trial.trial_over.Goals as goal

pub summarize-ended-requires-clause-best : goal.summarize-ended-requires-clause-best
summarize-ended-requires-clause-best g c = best_told _ _ c.solve-run.ensures

pub summarize-ended-requires-clause-bound : goal.summarize-ended-requires-clause-bound
summarize-ended-requires-clause-bound g c =
    let is = rw (c.in_ok-prepared.ensures.instance, c.in_ok-prepared.ensures.initial, c.in_ok-prepared.ensures.lots) at
    c.solve-run.ensures in
    bound_told _ c.solve-run.result
    c.in_ok-bound.bound is c.in_ok-bound.ensures

pub returns-clause-printed : goal.returns-clause-printed
returns-clause-printed g c =
    let o = c.args.beginning.now in
    let is = rw (c.in_ok-prepared.ensures.instance, c.in_ok-prepared.ensures.initial, c.in_ok-prepared.ensures.lots) at
    c.solve-run.ensures in
    summarized _ c.solve-run.result
    (Took (writing g.O.Sink c.args.out.now c.summarize-ended.new.out)) is c.requires.one c.in_ok-ended.ensures.whole

pub returns-in_err-ended-clause-refused : goal.returns-in_err-ended-clause-refused
returns-in_err-ended-clause-refused g c =
    let o = c.args.beginning.now in
    let is = rw (c.in_ok-prepared.ensures.instance, c.in_ok-prepared.ensures.initial, c.in_ok-prepared.ensures.lots) at
    c.solve-run.ensures in
    at_exit _ _ _ c.from_residual-in_err-ended.ensures
    (summarized _ c.solve-run.result
    (BrokeOff (writing g.O.Sink c.args.out.now c.summarize-ended.new.out)) is c.requires.one
    c.in_err-ended.ensures.part)
