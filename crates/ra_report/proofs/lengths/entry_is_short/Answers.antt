use Rattle.ra_report.proofs.LengthLaws.{entry_length}
use Rattle.ra_report.proofs.lengths.entry_is_short.Goals as goal

pub returns : goal.returns
returns c = entry_length c.args.at c.args.entry.now c.number_is_short.ensures c.label_is_short.ensures
    c.number_is_short-2.ensures c.number_is_short-3.ensures c.steps_are_short.ensures c.verdict_is_short.ensures
