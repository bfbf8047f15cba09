-- The summary of a run: its outcome, and how many of its proposals were done and refused.
use Rattle.std.specs.Prelude.{ℕ, List, ◌++◌, codes, Bool, true, false, not, count_by}
use Rattle.ra_base.specs.declared.costs.Parts.{Parts}
use Rattle.ra_bounds.specs.PinnedBounds.{pinned_bound_of}
use Rattle.ra_moves.specs.declared.verdicts.Verdict.{Verdict}
use Rattle.ra_moves.specs.declared.verdicts.Verdict.TheVariants.{Done, Refused}
use Rattle.ra_journal.specs.declared.entries.Entry.{Entry}
use Rattle.ra_journal.specs.Best.{best_of}
use Rattle.ra_journal.specs.Journals.{History, opening_in}
use Rattle.ra_journal.specs.Openings.{Opening}
use Rattle.ra_journal.specs.States.{state_at}
use Rattle.ra_model.specs.Situations.{parts_at}
use Rattle.ra_report.specs.JournalTexts.{outcome_text}
use Rattle.ra_report.specs.Texts.{number_line}

-- a verdict is done
abbrev pub is_done : Verdict → Bool
is_done (Done cost) = true
is_done (Refused cause) = false

-- how many entries are done, and how many are refused
unfoldable pub done_count : List Entry → ℕ
done_count h = count_by (λ e. is_done e.verdict) h

unfoldable pub refused_count : List Entry → ℕ
refused_count h = count_by (λ e. not (is_done e.verdict)) h

-- the ten lines: the parts, the total of a bound, a place, and the two counts of a journal
unfoldable pub summary_lines : Parts → ℕ → ℕ → List Entry → List ℕ
summary_lines parts bound_total best_at h =
    outcome_text parts bound_total best_at ++ number_line (codes "done") (done_count h)
    ++ number_line (codes "refused") (refused_count h)

-- the summary of journal h from start a0: it tells the parts of the best state and its place, and the total of the
-- bound of the instance and the start
unfoldable pub summary_text : Opening → List Entry → List ℕ
summary_text o h =
    let j = best_of o h in
    summary_lines (parts_at (state_at o h j)) (pinned_bound_of o.tables o.start).total j h

unfoldable pub summary_of : History → List ℕ
summary_of j = summary_text (opening_in j) j.entries
