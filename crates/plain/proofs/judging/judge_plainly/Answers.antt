use Rattle.std.proofs.Common.{sym, ◌∙◌, arith}
use Rattle.ra_model.proofs.BoundLemmas.{sums_fit}
use Rattle.plain.proofs.Fitting.{fits_after}
use Rattle.plain.proofs.Judged.{flawless_distinct, judge_outcome}
use Rattle.plain.proofs.judging.judge_plainly.Goals as goal

pub apply-requires-clause-distinct : goal.apply-requires-clause-distinct
apply-requires-clause-distinct c = flawless_distinct _ (sym c.first_flaw.ensures ∙ c.in_default.is)

pub judge_after-verdict-requires-clause-fits : goal.judge_after-verdict-requires-clause-fits
judge_after-verdict-requires-clause-fits c =
    fits_after _ _ _ _ c.apply.ensures.at_once c.requires.fits c.requires.reaches

pub judge_after-verdict-requires-clause-small : goal.judge_after-verdict-requires-clause-small
judge_after-verdict-requires-clause-small c =
    let inst = c.args.inst.now in
    omega (
      arith,
      c.requires.before,
      (sums_fit inst.tables c.args.a0.now.items c.args.a.now.items inst.well_formed inst.small).all,
    )

pub undo-requires-clause-distinct : goal.undo-requires-clause-distinct
undo-requires-clause-distinct c = flawless_distinct _ (sym c.first_flaw.ensures ∙ c.in_default.is)

pub returns-clause-verdict : goal.returns-clause-verdict
returns-clause-verdict c = c.judge_after-verdict.ensures.verdict
    ∙ judge_outcome _ _ _ _ _ _ _ (sym c.first_flaw.ensures ∙ c.in_default.is) c.apply.ensures.in_turn c.requires.before
