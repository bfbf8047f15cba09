use Rattle.ra_report.specs.RepairTexts.{tries_text}
use Rattle.ra_report.proofs.GatheringLemmas.{adds_none}
use Rattle.ra_report.proofs.TryTexts.{adds_try}
use Rattle.ra_report.proofs.repair.add_tries.Goals as goal

pub loop-place-init : goal.loop-place-init
unfolding tries_text
loop-place-init g c = adds_none g.O.Sink.taken g.O.Sink.faults c.args.text.now

pub loop-place-preserved : goal.loop-place-preserved
loop-place-preserved g c = adds_try g.O.Sink.taken g.O.Sink.faults c.args.repair.now.tries.items c.loop-place.place
    c.args.text.now c.loop-place.text c.add_try.new.text c.loop-place.invariant
    (rw (← c.entry.ensures) c.add_try.ensures)
