-- Feasible lists break nothing.
use Rattle.ra_model.proofs.BrokenLemmas.{unbroken_from_feasible}
use Rattle.ra_anneal.specs.Searching.{from_in}
use Rattle.ra_anneal.proofs.annealing.anneal_from.Goals as goal

pub invariant_of-beginning-clause-initial_unbroken : goal.invariant_of-beginning-clause-initial_unbroken
invariant_of-beginning-clause-initial_unbroken g c =
    unbroken_from_feasible c.args.given.now.inst.tables c.args.given.now.initial.items
    c.args.given.now.initial.items c.in_ok-costs.ensures.passes.start

pub invariant_of-beginning-clause-from_fits : goal.invariant_of-beginning-clause-from_fits
invariant_of-beginning-clause-from_fits g c = rw c.from.ensures c.requires.from

pub invariant_of-beginning-clause-from_unbroken : goal.invariant_of-beginning-clause-from_unbroken
invariant_of-beginning-clause-from_unbroken g c =
    rw c.from.ensures
    (unbroken_from_feasible c.args.given.now.inst.tables c.args.given.now.initial.items (from_in c.args.given.now)
    c.in_ok-costs.ensures.passes.begun)

pub invariant_of-beginning-clause-from_is : goal.invariant_of-beginning-clause-from_is
invariant_of-beginning-clause-from_is g c = rw c.from.ensures c.in_ok-costs.ensures.passes.from_parts
