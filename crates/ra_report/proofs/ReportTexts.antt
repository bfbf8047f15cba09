-- The report of a journal and its summary, from what is written.
use Rattle.std.proofs.Common.{arith, ◌≡◌, ℕ, List, ◌++◌, length, refl}
use Rattle.ra_base.specs.declared.causes.Drawing.{Drawing}
use Rattle.ra_base.specs.declared.costs.Parts.{Parts}
use Rattle.ra_base.specs.declared.ids.Machine.{Machine}
use Rattle.ra_bounds.specs.PinnedBounds.{pinned_bound_of}
use Rattle.ra_bounds.specs.declared.costs.Bound.{Bound}
use Rattle.ra_draws.specs.declared.budgets.Lots.{Lots}
use Rattle.ra_journal.specs.declared.entries.Entry.{Entry}
use Rattle.ra_journal.specs.Best.{best_of}
use Rattle.ra_journal.specs.Openings.{Opening}
use Rattle.ra_journal.specs.Journals.{History, opening_in}
use Rattle.ra_model.specs.Costs.{parts_of}
use Rattle.ra_report.specs.JournalTexts.{report_lines, head_text, entries_text, report_text, report_head, best_state, text_of, head_of}
use Rattle.ra_report.specs.Summaries.{summary_lines, summary_text, summary_of}

pub report_told : (j : History) (best : List Machine) (parts : Parts) (bound : Bound) (at : ℕ) (d : Drawing) (l : Lots)
    (h : List Entry) → best ≡ best_state j → parts ≡ parts_of j.instance.tables j.initial.items best →
    bound ≡ pinned_bound_of j.instance.tables j.initial.items →
    at ≡ best_of (opening_in j) j.entries → d ≡ l.drawing → l ≡ j.lots →
    h ≡ j.entries → report_lines parts bound.total at best d h ≡ text_of j
unfolding text_of report_text best_state
report_told j best parts bound at d l h best_is parts_is bound_is at_is d_is l_is h_is = grind arith

pub head_told : (j : History) (best : List Machine) (parts : Parts) (bound : Bound) (at : ℕ) (d : Drawing) (l : Lots) →
    best ≡ best_state j → parts ≡ parts_of j.instance.tables j.initial.items best →
    bound ≡ pinned_bound_of j.instance.tables j.initial.items →
    at ≡ best_of (opening_in j) j.entries → d ≡ l.drawing → l ≡ j.lots →
    head_text parts bound.total at best d ≡ head_of j
unfolding head_of report_head best_state
head_told j best parts bound at d l best_is parts_is bound_is at_is d_is l_is =
    rw (parts_is, bound_is, at_is, d_is, l_is, best_is) refl

-- a report is its head and the lines of its entries
pub report_parts : (o : Opening) (h : List Entry) → report_text o h ≡ report_head o h ++ entries_text h (length h)
unfolding report_text report_head report_lines
report_parts o h = refl

pub summary_told : (j : History) (parts : Parts) (bound : Bound) (at : ℕ) (h : List Entry) →
    parts ≡ parts_of j.instance.tables j.initial.items (best_state j) →
    bound ≡ pinned_bound_of j.instance.tables j.initial.items →
    at ≡ best_of (opening_in j) j.entries → h ≡ j.entries →
    summary_lines parts bound.total at h ≡ summary_of j
unfolding summary_of summary_text best_state
summary_told j parts bound at h parts_is bound_is at_is h_is = rw (parts_is, bound_is, at_is, h_is) refl
