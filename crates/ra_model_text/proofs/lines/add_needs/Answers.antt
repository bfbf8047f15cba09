use Rattle.std.proofs.Common.{arith}
use Rattle.ra_model.specs.Numbers.{need_of}
use Rattle.ra_model_text.proofs.ModelLines.{row_none, row_more}
use Rattle.ra_model_text.proofs.lines.add_needs.Goals as goal

pub loop-k-init : goal.loop-k-init
loop-k-init g c = row_none g.O.Sink.taken g.O.Sink.faults (need_of c.args.inst.now.tables c.args.s.0) c.args.text.now

pub loop-k-preserved : goal.loop-k-preserved
loop-k-preserved g c =
    let need = c.depends-needs.ensures.each c.loop-k.k
    (omega (arith, c.depends-needs.ensures.count, c.loop-k-test.true)) in
    row_more g.O.Sink.taken g.O.Sink.faults c.loop-k.k (need_of c.args.inst.now.tables c.args.s.0) c.args.text.now
    c.loop-k.text c.add_more.new.text c.loop-k.invariant (rw need at c.add_more.ensures)
