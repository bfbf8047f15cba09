use Rattle.std.proofs.Common.{arith}
use Rattle.ra_model_text.proofs.ModelLines.{group_none, group_more, group_all}
use Rattle.ra_model_text.proofs.model.add_processes.Goals as goal

pub loop-p-init : goal.loop-p-init
loop-p-init g c =
    group_none g.O.Sink.taken g.O.Sink.faults _ _ _ c.args.text.now c.add_one.new.text
    c.processes.ensures c.add_one.ensures

pub loop-p-preserved : goal.loop-p-preserved
loop-p-preserved g c =
    group_more g.O.Sink.taken g.O.Sink.faults _ _ _ c.args.text.now c.loop-p.text c.add_process.new.text
    c.loop-p.invariant c.add_process.ensures

pub returns : goal.returns
returns g c =
    group_all g.O.Sink.taken g.O.Sink.faults _ _ _ c.args.text.now c.loop-p.text (omega arith) c.loop-p.invariant
