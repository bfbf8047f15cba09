-- Bytes of which no line is wrong are a report.
use Rattle.std.proofs.Common.{ℕ, List, length, refl}
use Rattle.ra_verify.specs.WrongLines.{NoneIsWrong, IsReport}
use Rattle.ra_verify.proofs.ReportLemmas.{is_report}
use Rattle.ra_journal.specs.Openings.{Opening}

pub none_wrong_is_report : (o : Opening) (bytes : List ℕ) → NoneIsWrong o bytes → (n : ℕ) × IsReport o bytes n
none_wrong_is_report o bytes is = (length is.journal, is_report o bytes (length is.journal) is refl)
