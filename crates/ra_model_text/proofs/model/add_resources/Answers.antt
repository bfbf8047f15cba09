use Rattle.std.proofs.Common.{arith}
use Rattle.ra_model_text.proofs.ModelLines.{group_none, group_more, group_all}
use Rattle.ra_model_text.proofs.model.add_resources.Goals as goal

pub loop-r-init : goal.loop-r-init
loop-r-init g c =
    group_none g.O.Sink.taken g.O.Sink.faults _ _ _ c.args.text.now c.add_one.new.text
    c.resources.ensures c.add_one.ensures

pub loop-r-preserved : goal.loop-r-preserved
loop-r-preserved g c =
    group_more g.O.Sink.taken g.O.Sink.faults _ _ _ c.args.text.now c.loop-r.text c.add_resource.new.text
    c.loop-r.invariant c.add_resource.ensures

pub returns : goal.returns
returns g c =
    group_all g.O.Sink.taken g.O.Sink.faults _ _ _ c.args.text.now c.loop-r.text (omega arith) c.loop-r.invariant
