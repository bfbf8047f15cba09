use Rattle.ra_io.specs.Outside.{writing, Took}
use Rattle.ra_jobs.specs.Output.{BrokeOff}
use Rattle.ra_journal.specs.Openings.{opening}
use Rattle.ra_run.proofs.TrialLemmas.{start_fitting, start_good, one_worker, ok_then, err_then, trial_printed}
use Rattle.ra_run.proofs.TrialLemmas.{trial_reason}
use Rattle.ra_run.proofs.trial.trial.Goals as goal

pub trial_from-ended-requires-clause-fits : goal.trial_from-ended-requires-clause-fits
trial_from-ended-requires-clause-fits g c = λ _ _. start_fitting c.args.number _ _ c.in_ok-start.ensures

pub trial_from-ended-requires-clause-unbroken : goal.trial_from-ended-requires-clause-unbroken
trial_from-ended-requires-clause-unbroken g c = λ _ _. start_good c.args.number _ _ c.in_ok-start.ensures

pub trial_from-ended-requires-clause-one : goal.trial_from-ended-requires-clause-one
trial_from-ended-requires-clause-one g c = λ _ _. one_worker c.args.number _ c.in_ok-lots.ensures

pub returns-clause-printed : goal.returns-clause-printed
returns-clause-printed g c =
    ok_then c.trial_from-ended.result _ _
    (trial_printed c.args.number (opening c.in_ok-start.start.inst.tables c.in_ok-start.start.initial.items
    c.in_ok-lots.lots)
    (Took (writing g.O.Sink c.args.out.now c.trial_from-ended.new.out)) c.in_ok-start.ensures c.in_ok-lots.ensures)
    c.trial_from-ended.ensures.printed

pub returns-clause-refused : goal.returns-clause-refused
returns-clause-refused g c =
    err_then c.trial_from-ended.result _ _
    (trial_reason c.args.number (opening c.in_ok-start.start.inst.tables c.in_ok-start.start.initial.items
    c.in_ok-lots.lots)
    (BrokeOff (writing g.O.Sink c.args.out.now c.trial_from-ended.new.out)) c.in_ok-start.ensures c.in_ok-lots.ensures)
    c.trial_from-ended.ensures.refused
