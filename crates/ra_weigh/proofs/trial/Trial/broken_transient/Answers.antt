-- The search goes from one machine that is entered to the next.
use Rattle.std.proofs.Common.{sym, arith}
use Rattle.ra_model.specs.Broken.{broken_transient}
use Rattle.ra_weigh.proofs.HoldLemmas.{transient_entered}
use Rattle.ra_weigh.proofs.SeekLemmas.{sought_start, sought_on, sought_found, sought_all}
use Rattle.ra_weigh.proofs.trial.Trial.broken_transient.Goals as goal

pub loop-low-init : goal.loop-low-init
loop-low-init c =
    let t = c.args.self.now in
    sought_start
    (transient_entered _ _ t.moves t.fine)
    c.next_entered-low.ensures.within c.next_entered-low.ensures.clear

pub returns-in-Some : goal.returns-in-Some
unfolding broken_transient
returns-in-Some c = grind (arith, sought_found)

pub loop-low-preserved : goal.loop-low-preserved
loop-low-preserved c =
    let t = c.args.self.now in
    sought_on
    (transient_entered _ _ t.moves t.fine)
    c.loop-low.invariant (sym c.in_default.ensures) c.next_entered-low-in-loop-low.ensures.from
    c.next_entered-low-in-loop-low.ensures.within c.next_entered-low-in-loop-low.ensures.clear

pub returns : goal.returns
unfolding broken_transient
returns c = grind (arith, sought_all)
