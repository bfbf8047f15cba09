use Rattle.ra_report.proofs.LineLemmas.{at_most}
use Rattle.ra_report.proofs.NumberTexts.{decimal_number}
use Rattle.ra_report.proofs.line.Line.prepend_widest.Goals as goal

pub returns : goal.returns
returns c =
    let same = decimal_number c.args.number c.ranges.number.fits in
    at_most 39 (rw (c.format.ensures.text, same) at c.format.ensures.fits)
    (rw (c.as_bytes.ensures.value, c.format.ensures.text, same) at c.prepend.ensures)
