use Rattle.ra_report.proofs.GatheringLemmas.{adds_none, adds_at}
use Rattle.ra_report.proofs.pieces.add_pieces.Goals as goal

pub loop-piece-init : goal.loop-piece-init
loop-piece-init g c = adds_none g.O.Sink.taken g.O.Sink.faults c.args.text.now

pub loop-piece-preserved : goal.loop-piece-preserved
loop-piece-preserved g c = adds_at g.O.Sink.taken g.O.Sink.faults c.args.pieces.now c.loop-piece.piece-index _
    c.args.text.now c.loop-piece.text c.add_piece.new.text c.loop-piece-test.true c.loop-piece.invariant
    c.add_piece.ensures
