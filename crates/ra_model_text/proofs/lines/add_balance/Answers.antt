use Rattle.ra_model.specs.Numbers.{first_of, second_of, target_of, balance_weight_of}
use Rattle.ra_model_text.specs.ModelTexts.{balance_text}
use Rattle.ra_report.proofs.GatheringLemmas.{adds_more}
use Rattle.ra_model_text.proofs.lines.add_balance.Goals as goal

pub returns : goal.returns
unfolding balance_text first_of second_of target_of balance_weight_of
returns g c =
    adds_more g.O.Sink.taken g.O.Sink.faults c.args.text.now c.add_three.new.text c.add_one.new.text _ _
    (rw c.balance-row.ensures at c.add_three.ensures)
    (rw c.balance-row.ensures at c.add_one.ensures)
