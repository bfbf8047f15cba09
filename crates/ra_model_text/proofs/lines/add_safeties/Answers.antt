use Rattle.std.proofs.Common.{arith}
use Rattle.ra_model_text.proofs.ModelLines.{row_none, row_more, row_all}
use Rattle.ra_model_text.proofs.lines.add_safeties.Goals as goal

pub loop-r-init : goal.loop-r-init
loop-r-init g c = row_none g.O.Sink.taken g.O.Sink.faults _ c.args.text.now

pub loop-r-preserved : goal.loop-r-preserved
loop-r-preserved g c =
    row_more g.O.Sink.taken g.O.Sink.faults _ _ c.args.text.now c.loop-r.text c.add_more.new.text c.loop-r.invariant
    (rw c.safety.ensures at c.add_more.ensures)

pub returns : goal.returns
returns g c =
    row_all g.O.Sink.taken g.O.Sink.faults _ _ _ c.args.text.now c.loop-r.text (omega arith) c.loop-r.invariant
