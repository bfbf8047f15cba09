-- From the end to the front.
use Rattle.ra_report.specs.RepairTexts.{try_line}
use Rattle.ra_report.proofs.LineLemmas.{in_front, alone}
use Rattle.ra_report.proofs.repair.write_try.Goals as goal

pub returns : goal.returns
unfolding try_line
returns c =
    alone c.clear.ensures (in_front (in_front c.prepend_back.ensures c.prepend_steps.ensures) c.prepend_front.ensures)
