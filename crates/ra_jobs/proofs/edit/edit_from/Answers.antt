use Rattle.ra_token.proofs.ToldLemmas.{at_exit}
use Rattle.ra_io.specs.Outside.{writing, Took}
use Rattle.ra_jobs.proofs.ResultLemmas.{on_ok_then, if_err_then}
use Rattle.ra_jobs.proofs.StageLemmas.{judge_more}
use Rattle.ra_jobs.proofs.EditLemmas.{outcome_edited, over_more}
use Rattle.ra_jobs.proofs.edit.edit_from.Goals as goal

pub write_outcome-requires : goal.write_outcome-requires
write_outcome-requires g c = c.in_ok-outcome.ensures.done.writable

pub returns-clause-printed : goal.returns-clause-printed
returns-clause-printed g c =
    on_ok_then c.write_outcome.result _ _
    (outcome_edited c.args.taken.inst.tables c.args.taken.lists.initial.items c.args.taken.lists.changed.items
    c.args.taken.edits c.in_ok-outcome.outcome (Took (writing g.O.Sink c.args.out.now c.write_outcome.new.out))
    c.in_ok-outcome.ensures.done) c.write_outcome.ensures.printed

pub returns-clause-refused : goal.returns-clause-refused
returns-clause-refused g c =
    if_err_then c.write_outcome.result _ _
    (over_more c.args.taken.inst.tables c.args.taken.lists.initial.items c.args.taken.lists.changed.items _ _
    (outcome_edited c.args.taken.inst.tables c.args.taken.lists.initial.items c.args.taken.lists.changed.items
    c.args.taken.edits c.in_ok-outcome.outcome
    _ c.in_ok-outcome.ensures.done))
    c.write_outcome.ensures.refused

pub returns-in_err-outcome-clause-refused : goal.returns-in_err-outcome-clause-refused
returns-in_err-outcome-clause-refused g c =
    at_exit _ _ _ c.from_residual.ensures
    (judge_more c.args.taken.inst.tables c.args.taken.lists.initial.items c.args.taken.lists.changed.items ⊥ _
    absurd _ c.in_err-outcome.ensures.refused)
