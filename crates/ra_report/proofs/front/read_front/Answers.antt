use Rattle.std.proofs.Common.{◌∙◌}
use Rattle.ra_report.proofs.FrontLaws.{entry_numbers, cut_numbers, after_front}
use Rattle.ra_report.proofs.front.read_front.Goals as goal

pub returns-clause-whole : goal.returns-clause-whole
returns-clause-whole c = λ j e small is. c.read_numbers.ensures j e.worker e.k e.q (after_front e) small.worker small.q
    (is ∙ entry_numbers j e)

pub returns-clause-cut : goal.returns-clause-cut
returns-clause-cut c = λ j e rest small long is. c.read_numbers.ensures j e.worker e.k e.q _ small.entry.worker
    small.entry.q (cut_numbers j e c.args.line.now rest small long is)
