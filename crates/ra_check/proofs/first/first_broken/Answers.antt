-- The laws of the first broken constraint.
use Rattle.ra_model.proofs.BrokenLemmas.{feasible_from_unbroken, unbroken_from_feasible, broken_is_constraint}
use Rattle.ra_check.proofs.first.first_broken.Goals as goal

pub returns-clause-feasible : goal.returns-clause-feasible
returns-clause-feasible c =
    rw c.search_all.ensures.first (
      (λ none. feasible_from_unbroken _ _ _ c.args.inst.now.well_formed c.requires.fits none),
      (λ feasible. unbroken_from_feasible _ _ _ feasible),
    )

pub returns-clause-constraint : goal.returns-clause-constraint
returns-clause-constraint c =
    rw c.search_all.ensures.first (broken_is_constraint c.args.inst.now.tables c.args.a0.now.items c.args.a.now.items)
