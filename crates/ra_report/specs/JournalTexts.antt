-- The report of a run, with a line for each entry of its journal, and the journal that a report tells.
use Rattle.std.specs.Prelude.{◌≡◌, ℕ, zero, suc, ◌==◌, if◌then◌else◌, List, [], ◌∷◌, ◌++◌, length, codes, Option, Some, None}
use Rattle.std.specs.List.{flat_map}
use Rattle.ra_base.specs.declared.causes.Drawing.{Drawing}
use Rattle.ra_base.specs.declared.causes.Drawing.TheVariants.{One, Two}
use Rattle.ra_base.specs.declared.costs.Parts.{Parts}
use Rattle.ra_base.specs.declared.ids.Machine.{Machine}
use Rattle.ra_draws.specs.Shown.{drawing_in}
use Rattle.ra_bounds.specs.declared.costs.Bound.{Bound}
use Rattle.ra_bounds.specs.PinnedBounds.{pinned_bound_of}
use Rattle.ra_model.specs.Costs.{parts_of}
use Rattle.ra_model.specs.Situations.{parts_at}
use Rattle.ra_moves.specs.declared.steps.MoveKind.{MoveKind}
use Rattle.ra_moves.specs.declared.steps.MoveKind.TheVariants.{Shift, Swap, Chain}
use Rattle.ra_moves.specs.declared.steps.Step.{Step}
use Rattle.ra_moves.specs.declared.verdicts.Verdict.{Verdict}
use Rattle.ra_moves.specs.declared.verdicts.Verdict.TheVariants.{Done, Refused}
use Rattle.ra_journal.specs.declared.entries.Entry.{Entry}
use Rattle.ra_journal.specs.Entries.{entry_at}
use Rattle.ra_journal.specs.States.{state, state_at}
use Rattle.ra_journal.specs.Best.{best_of}
use Rattle.ra_journal.specs.Journals.{History, opening_in}
use Rattle.ra_journal.specs.Openings.{Opening}
use Rattle.ra_report.specs.Texts.{space, line_end, number_text, number_line, parts_text, with_one, cause_text}
pub use Rattle.ra_report.specs.Texts.{machine_word}
unfoldable pub use Rattle.ra_report.specs.Texts.{machines_text, assignment_line}

-- a verdict: `done` and the cost, or `refused` and the cause
unfoldable pub verdict_text : Verdict → List ℕ
verdict_text (Done cost) = with_one (codes "done") cost
verdict_text (Refused cause) = codes "refused" ++ space ++ cause_text cause

-- the printed name of a kind of moves
unfoldable pub kind_text : MoveKind → List ℕ
kind_text Shift = codes "shift"
kind_text Swap = codes "swap"
kind_text Chain = codes "chain"

-- a step as `p:from>to`
unfoldable pub step_text : Step → List ℕ
step_text s =
    number_text s.process.0 ++ codes ":" ++ number_text s.from.0 ++ codes ">" ++ number_text s.to.0

-- the words of steps, with a space after each
abbrev pub step_word : Step → List ℕ
step_word s = step_text s ++ space

unfoldable pub steps_text : List Step → List ℕ
steps_text steps = flat_map step_word steps

-- the words of the entry at place j before its steps, with a space after each
unfoldable pub entry_front : ℕ → Entry → List ℕ
entry_front j e =
    number_text j ++ space ++ number_text e.worker ++ space ++ number_text e.k ++ space
    ++ number_text e.q ++ space ++ kind_text e.mv.kind ++ space

-- the line of the entry at place j, its LF included
unfoldable pub entry_line : ℕ → Entry → List ℕ
entry_line j e = entry_front j e ++ steps_text e.mv.steps ++ verdict_text e.verdict ++ line_end

-- the lines of the first n entries, in order
unfoldable pub entries_text : List Entry → ℕ → List ℕ
entries_text h zero = []
entries_text h (suc n) = entries_text h n ++ entry_line n (entry_at h n)

-- these lines as a list
unfoldable pub entry_lines : List Entry → ℕ → List (List ℕ)
entry_lines h zero = []
entry_lines h (suc n) = entry_lines h n ++ entry_line n (entry_at h n) ∷ []

-- the printed number of a drawing, and its line
unfoldable pub drawing_number : Drawing → ℕ
drawing_number One = 1
drawing_number Two = 2

abbrev pub drawing_line : Drawing → List ℕ
drawing_line drawing = number_line (codes "draws") (drawing_number drawing)

-- the eight lines of the outcome of a run: the parts, the total of the bound, a place
abbrev pub outcome_text : Parts → ℕ → ℕ → List ℕ
outcome_text parts bound_total best_at =
    parts_text parts ++ number_line (codes "bound") bound_total
    ++ number_line (codes "best_at") best_at

-- the ten lines before the entries: these eight, the assignment at that place, the drawing
unfoldable pub head_text : Parts → ℕ → ℕ → List Machine → Drawing → List ℕ
head_text parts bound_total best_at a drawing =
    outcome_text parts bound_total best_at ++ assignment_line a ++ drawing_line drawing

-- a report of these ten lines and of all entries of a journal
unfoldable pub report_lines : Parts → ℕ → ℕ → List Machine → Drawing → List Entry → List ℕ
report_lines parts bound_total best_at a drawing h =
    head_text parts bound_total best_at a drawing ++ entries_text h (length h)

-- the report of journal h: it tells the best state, and the total of the bound of the instance and the start
unfoldable pub report_text : Opening → List Entry → List ℕ
report_text o h =
    let j = best_of o h in
    let best = state_at o h j in
    report_lines (parts_at best) (pinned_bound_of o.tables o.start).total j best.here
    (drawing_in o.lots) h

-- the ten lines before its entries
unfoldable pub report_head : Opening → List Entry → List ℕ
report_head o h =
    let j = best_of o h in
    let best = state_at o h j in
    head_text (parts_at best) (pinned_bound_of o.tables o.start).total j best.here (drawing_in o.lots)

-- the best state of a journal, its report, and the ten lines before the entries
unfoldable pub best_state : History → List Machine
best_state j =
    state j.initial.items j.entries (best_of (opening_in j) j.entries)

-- the parts of an assignment's cost, and the bound of the start with the load of the pinned processes
abbrev pub parts_in : History → List Machine → Parts
parts_in j a = parts_of j.instance.tables j.initial.items a

abbrev pub bound_in : History → Bound
bound_in j = pinned_bound_of j.instance.tables j.initial.items

unfoldable pub text_of : History → List ℕ
text_of j = report_text (opening_in j) j.entries

unfoldable pub head_of : History → List ℕ
head_of j = report_head (opening_in j) j.entries

-- the line for a report that was found right: the number of its entries
abbrev pub accepted_line : ℕ → List ℕ
accepted_line entries = number_line (codes "accepted") entries

-- the three lines of a bound: its total, its load and its balance
unfoldable pub bound_text : Bound → List ℕ
bound_text b =
    number_line (codes "bound") b.total ++ number_line (codes "load") b.load
    ++ number_line (codes "balance") b.balance

-- what comes after the first line, if there is a line
unfoldable pub after_line : List ℕ → Option (List ℕ)
after_line [] = None
after_line (byte ∷ bytes) = if byte == 10 then Some bytes else after_line bytes

-- what comes after the first n lines, if there are so many
unfoldable pub lines_left : ℕ → Option (List ℕ) → Option (List ℕ)
lines_left n None = None
lines_left zero (Some bytes) = Some bytes
lines_left (suc n) (Some bytes) = lines_left n (after_line bytes)

-- h is the journal that a report tells: the lines of its entries are the lines after the tenth
abbrev pub IsJournalOf : List ℕ → List Entry → Type 0
IsJournalOf bytes h = lines_left 10 (Some bytes) ≡ Some (entries_text h (length h))
