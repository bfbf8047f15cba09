-- The stages of `solve`.
use Rattle.std.specs.Prelude.{◌≡◌, ℕ, List, Some}
use Rattle.ra_model.specs.Feasible.{Feasible}
use Rattle.ra_journal.specs.declared.entries.Entry.{Entry}
use Rattle.ra_journal.specs.Legal.{Legal, Whole}
use Rattle.ra_journal.specs.Openings.{Opening}
use Rattle.ra_report.specs.JournalTexts.{report_text}
use Rattle.ra_jobs.specs.declared.refusals.Role.TheVariants as role

-- the initial list is feasible, and the report of a legal whole journal from it was sent
pub record IsReported (o : Opening) (sent : List ℕ → Type 0) : Type 0 where
  pub start : Feasible o.tables o.start o.start
  pub journal : List Entry
  pub legal : Legal o journal
  pub whole : Whole o.lots journal
  pub text : sent (report_text o journal)
