use Rattle.ra_report.proofs.NumberTexts.{number_std}
use Rattle.ra_laws.proofs.report.numbers_are_decimal.Goals as goal

pub returns : goal.returns
returns c = number_std
