-- The search goes from one machine that is entered to the next.
use Rattle.std.proofs.Common.{sym, arith}
use Rattle.ra_model.specs.Broken.{service_conflict}
use Rattle.ra_weigh.proofs.HoldLemmas.{conflict_entered}
use Rattle.ra_weigh.proofs.SeekLemmas.{sought_start, sought_on, sought_found, sought_all}
use Rattle.ra_weigh.proofs.trial.Trial.service_conflict.Goals as goal

pub loop-low-init : goal.loop-low-init
loop-low-init c =
    let t = c.args.self.now in
    sought_start
    (conflict_entered _ _ c.args.s.0 t.moves t.fine c.requires)
    c.next_entered-low.ensures.within c.next_entered-low.ensures.clear

pub returns-in-Some : goal.returns-in-Some
unfolding service_conflict
returns-in-Some c = grind (arith, sought_found)

pub loop-low-preserved : goal.loop-low-preserved
loop-low-preserved c =
    let t = c.args.self.now in
    sought_on
    (conflict_entered _ _ c.args.s.0 t.moves t.fine c.requires)
    c.loop-low.invariant (sym c.in_default.ensures) c.next_entered-low-in-loop-low.ensures.from
    c.next_entered-low-in-loop-low.ensures.within c.next_entered-low-in-loop-low.ensures.clear

pub returns : goal.returns
unfolding service_conflict
returns c = grind (arith, sought_all)
