use Rattle.std.proofs.Common.{arith}
use Rattle.ra_model_text.proofs.ModelLines.{group_none, group_more, group_all}
use Rattle.ra_model_text.proofs.model.add_services.Goals as goal

pub loop-s-init : goal.loop-s-init
loop-s-init g c =
    group_none g.O.Sink.taken g.O.Sink.faults _ _ _ c.args.text.now c.add_one.new.text
    c.services.ensures c.add_one.ensures

pub loop-s-preserved : goal.loop-s-preserved
loop-s-preserved g c =
    group_more g.O.Sink.taken g.O.Sink.faults _ _ _ c.args.text.now c.loop-s.text c.add_service.new.text
    c.loop-s.invariant c.add_service.ensures

pub returns : goal.returns
returns g c =
    group_all g.O.Sink.taken g.O.Sink.faults _ _ _ c.args.text.now c.loop-s.text (omega arith) c.loop-s.invariant
