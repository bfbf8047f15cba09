-- What is known of what the search has found is what its text says.
use Rattle.ra_io.specs.Outside.{writing, Took}
use Rattle.ra_token.proofs.ToldLemmas.{at_exit}
use Rattle.ra_jobs.specs.Output.{BrokeOff}
use Rattle.ra_anneal.proofs.AnnealLemmas.{found_told}
use Rattle.ra_anneal.proofs.annealing.anneal_over.Goals as goal

pub returns-clause-printed : goal.returns-clause-printed
returns-clause-printed g c =
    let b = c.args.beginning.now in
    found_told b.inst.now.tables b.initial.now.items b.from.now.items c.in_ok-bound.bound c.in_ok-found.found
    (Took (writing g.O.Sink c.args.out.now c.write_annealed-ended.new.sink)) b.inst.now.well_formed b.initial_fits
    b.from_fits b.initial_unbroken b.from_unbroken c.in_ok-found.ensures c.in_ok-bound.ensures
    c.in_ok-ended.ensures.whole

pub returns-in_err-ended-clause-refused : goal.returns-in_err-ended-clause-refused
returns-in_err-ended-clause-refused g c =
    let b = c.args.beginning.now in
    at_exit _ _ _ c.from_residual-in_err-ended.ensures
    (found_told b.inst.now.tables b.initial.now.items b.from.now.items c.in_ok-bound.bound c.in_ok-found.found
    (BrokeOff (writing g.O.Sink c.args.out.now c.write_annealed-ended.new.sink)) b.inst.now.well_formed b.initial_fits
    b.from_fits b.initial_unbroken b.from_unbroken c.in_ok-found.ensures c.in_ok-bound.ensures
    c.in_err-ended.ensures.part)
