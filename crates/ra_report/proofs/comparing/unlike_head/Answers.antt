use Rattle.ra_report.specs.JournalTexts.{head_of}
use Rattle.ra_report.proofs.ComparedLaws.{was_given, none_sym, few_lines}
use Rattle.ra_report.proofs.LineEnds.{head_line_count_of}
use Rattle.ra_report.proofs.comparing.unlike_head.Goals as goal

pub returns-clause-same : goal.returns-clause-same
returns-clause-same c =
    let bytes = c.args.bytes.now in
    let head = head_of c.args.journal.now in
    none_sym c.unlike_line.result head bytes
    (c.unlike_line.ensures.same bytes head
    (was_given c.write_head.result bytes _ _ head _ _ c.make-sink.ensures.none c.make-sink.ensures.sound
    c.write_head.ensures.whole c.write_head.ensures.part))

pub returns-clause-unlike : goal.returns-clause-unlike
returns-clause-unlike c =
    let bytes = c.args.bytes.now in
    let head = head_of c.args.journal.now in
    c.unlike_line.ensures.unlike bytes head
    (was_given c.write_head.result bytes _ _ head _ _ c.make-sink.ensures.none c.make-sink.ensures.sound
    c.write_head.ensures.whole c.write_head.ensures.part)

pub returns-clause-few : goal.returns-clause-few
returns-clause-few c =
    let bytes = c.args.bytes.now in
    let head = head_of c.args.journal.now in
    few_lines c.unlike_line.result bytes head (head_line_count_of c.args.journal.now)
    (c.unlike_line.ensures.unlike bytes head
    (was_given c.write_head.result bytes _ _ head _ _ c.make-sink.ensures.none c.make-sink.ensures.sound
    c.write_head.ensures.whole c.write_head.ensures.part))
