-- What holds of all reports that are verified, each law proved by a function of `verify`.
use Rattle.std.specs.Prelude.{◌≡◌, ℕ, List, [], ◌∷◌, ◌++◌, None}
use Rattle.ra_journal.specs.declared.entries.Entry.{Entry}
use Rattle.ra_journal.specs.Legal.{Legal}
use Rattle.ra_journal.specs.Openings.{Opening}
use Rattle.ra_verify.specs.WrongLines.{IsWrongLine, IsReport}

-- the entries so far, the worker and the place of a plan determine the one entry that may follow
abbrev pub OneNextEntry : Type 0
OneNextEntry =
    (o : Opening) (h : List Entry) (e f : Entry)
    → Legal o (h ++ e ∷ []) → Legal o (h ++ f ∷ []) → e.worker ≡ f.worker → e.q ≡ f.q
    → e ≡ f

-- if no line is wrong, the bytes are the report of a legal whole journal
abbrev pub NoneWrongIsReport : Type 0
NoneWrongIsReport =
    (o : Opening) (bytes : List ℕ) → IsWrongLine o bytes None
    → (n : ℕ) × IsReport o bytes n
