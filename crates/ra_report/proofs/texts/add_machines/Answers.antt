use Rattle.std.proofs.lemmas.List.{append-nil}
use Rattle.ra_report.specs.Texts.{machine_word, machines_text}
use Rattle.ra_report.proofs.GatheringLemmas.{adds_none, adds_word}
use Rattle.ra_report.proofs.texts.add_machines.Goals as goal

pub loop-machine-init : goal.loop-machine-init
unfolding machines_text
loop-machine-init g c = adds_none g.O.Sink.taken g.O.Sink.faults c.args.text.now

pub loop-machine-preserved : goal.loop-machine-preserved
unfolding machines_text
loop-machine-preserved g c = adds_word g.O.Sink.taken g.O.Sink.faults machine_word c.args.machines.now
    c.loop-machine.machine-index _ c.args.text.now c.loop-machine.text c.add_pieces.new.text c.loop-machine-test.true
    c.loop-machine.invariant (simp append-nil at c.add_pieces.ensures)
