use Rattle.std.proofs.Common.{arith}
use Rattle.ra_model_text.proofs.ModelLines.{group_none, group_more, group_all}
use Rattle.ra_model_text.proofs.model.add_machines.Goals as goal

pub loop-m-init : goal.loop-m-init
loop-m-init g c =
    group_none g.O.Sink.taken g.O.Sink.faults _ _ _ c.args.text.now c.add_one.new.text
    c.machines.ensures c.add_one.ensures

pub loop-m-preserved : goal.loop-m-preserved
loop-m-preserved g c =
    group_more g.O.Sink.taken g.O.Sink.faults _ _ _ c.args.text.now c.loop-m.text c.add_machine.new.text
    c.loop-m.invariant c.add_machine.ensures

pub returns : goal.returns
returns g c =
    group_all g.O.Sink.taken g.O.Sink.faults _ _ _ c.args.text.now c.loop-m.text (omega arith) c.loop-m.invariant
