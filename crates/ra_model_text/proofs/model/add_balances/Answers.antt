use Rattle.std.proofs.Common.{arith}
use Rattle.ra_model_text.proofs.ModelLines.{group_none, group_more, group_all}
use Rattle.ra_model_text.proofs.model.add_balances.Goals as goal

pub loop-b-init : goal.loop-b-init
loop-b-init g c =
    group_none g.O.Sink.taken g.O.Sink.faults _ _ _ c.args.text.now c.add_one.new.text
    c.balances.ensures c.add_one.ensures

pub loop-b-preserved : goal.loop-b-preserved
loop-b-preserved g c =
    group_more g.O.Sink.taken g.O.Sink.faults _ _ _ c.args.text.now c.loop-b.text c.add_balance.new.text
    c.loop-b.invariant c.add_balance.ensures

pub returns : goal.returns
returns g c =
    group_all g.O.Sink.taken g.O.Sink.faults _ _ _ c.args.text.now c.loop-b.text (omega arith) c.loop-b.invariant
