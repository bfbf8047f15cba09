use Rattle.std.proofs.Common.{sym, ◌∙◌}
use Rattle.ra_token.proofs.ToldLemmas.{at_exit}
use Rattle.ra_jobs.proofs.StageLemmas.{judge_start_reason}
use Rattle.ra_jobs.proofs.judging.judge.Goals as goal

pub returns-clause-passes : goal.returns-clause-passes
returns-clause-passes c = record {
  initial = c.in_ok-scratch.ensures.feasible;
  changed = c.first_broken.ensures.feasible.0 c.in-None.is;
  parts_are = c.parts.ensures.value;
}

pub returns-in-Some-clause-refused : goal.returns-in-Some-clause-refused
returns-in-Some-clause-refused c = (c.in_ok-scratch.ensures.feasible, sym c.first_broken.ensures.first ∙ c.in-Some.is)

pub returns-in_err-scratch-clause-refused : goal.returns-in_err-scratch-clause-refused
returns-in_err-scratch-clause-refused c =
    at_exit _ _ _ c.from_residual.ensures
    (judge_start_reason c.args.inst.now.tables c.args.initial.now.items c.args.changed.now.items ⊥ _
    c.in_err-scratch.ensures.refused)
