use Rattle.ra_laws.proofs.LineLemmas.{line_whole}
use Rattle.ra_laws.proofs.lines.lines_are_whole.Goals as goal

pub returns : goal.returns
returns c = line_whole
