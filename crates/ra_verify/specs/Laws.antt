-- What holds of all reports, each proved by a function of `ra_laws`.
use Rattle.std.specs.Prelude.{◌≡◌, ℕ, List, Option, None}
use Rattle.ra_model.specs.Assignments.{IsAssignment}
use Rattle.ra_model.specs.Feasible.{Feasible}
use Rattle.ra_model.specs.Limits.{WellFormed, Small}
use Rattle.ra_journal.specs.Openings.{Opening}
use Rattle.ra_verify.specs.WrongLines.{IsWrongLine, IsReport}

-- bytes have one wrong line, or none
abbrev pub OneWrongLine : Type 0
OneWrongLine =
    (o : Opening) (bytes : List ℕ) (one other : Option ℕ)
    → IsWrongLine o bytes one → IsWrongLine o bytes other → one ≡ other

-- in such a report no line is wrong
abbrev pub ReportHasNoneWrong : Type 0
ReportHasNoneWrong =
    (o : Opening) (bytes : List ℕ) (n : ℕ) → WellFormed o.tables → Small o.tables
    → IsAssignment o.tables o.start → Feasible o.tables o.start o.start → IsReport o bytes n
    → IsWrongLine o bytes None
