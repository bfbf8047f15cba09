-- The lines of a report's head are short.
use Rattle.std.proofs.Common.{◌≡◌, ℕ, zero, suc, ◌+◌, ◌*◌, ◌^◌, ◌<◌, ◌≤◌, List, [], ◌∷◌, ◌++◌, length, slice_get, get_or, Option, Some, None, unwrap_or, codes, refl, ap, ◌∙◌, subst, arith, length-append, lt_trans}
use Rattle.std.proofs.lemmas.Option.{slice_get-get_or, none-some}
use Rattle.ra_base.specs.declared.causes.Drawing.{Drawing}
use Rattle.ra_base.specs.declared.causes.Drawing.TheVariants.{One, Two}
use Rattle.ra_base.specs.declared.ids.Machine.{Machine}
use Rattle.ra_bounds.specs.PinnedBounds.{pinned_bound_of}
use Rattle.ra_bounds.proofs.PinnedLemmas.{none_costs_less_pinned}
use Rattle.ra_model.specs.declared.raw.Tables.{Tables}
use Rattle.ra_model.specs.Limits.{WellFormed, Small}
use Rattle.ra_model.specs.Assignments.{IsAssignment, machine_at}
use Rattle.ra_model.specs.Feasible.{Feasible}
use Rattle.ra_model.specs.Costs.{parts_of}
use Rattle.ra_model.specs.Situations.{cost_at, parts_at}
use Rattle.ra_model.proofs.BoundLemmas.{objective_under, load_under, balance_under, process_under, service_under, machine_under}
use Rattle.ra_token.specs.Lines.{lines_of, line_at, body_of, HasNoEnd}
use Rattle.ra_token.proofs.BodyLaws.{body_before}
use Rattle.ra_journal.specs.declared.entries.Entry.{Entry}
use Rattle.ra_journal.specs.Best.{best_of}
use Rattle.ra_journal.specs.Legal.{Legal}
use Rattle.ra_journal.specs.States.{state, state_at}
use Rattle.ra_journal.specs.Openings.{Opening}
use Rattle.ra_journal.proofs.BestLemmas.{best_within}
use Rattle.ra_journal.proofs.SoundLemmas.{sound}
use Rattle.ra_report.specs.Texts.{space, number_text, number_line}
use Rattle.ra_report.specs.JournalTexts.{machines_text, assignment_line, drawing_number, report_head, report_text}
use Rattle.ra_report.proofs.LengthLaws.{text_length, cost_length}
use Rattle.ra_report.proofs.LineEnds.{IsLine, number_line_is_line, assignment_is_line, head_lines, head_alone}
use Rattle.ra_verify.specs.Laws.{ReportHasNoneWrong}
use Rattle.ra_verify.specs.WrongLines.{most_bytes, over_long}
use Rattle.ra_verify.proofs.FollowLemmas.{few_entries}
use Rattle.ra_verify.proofs.ReadingLemmas.{short_at, none_over}
use Rattle.ra_verify.proofs.ReportLemmas.{report_at, report_long, report_entry_at}

-- a line says one byte less than it has
line_short : (line : List ℕ) (most : ℕ) → IsLine line → length line ≤ most + 1 → length (body_of line) ≤ most
line_short line most is few =
    omega (
      arith,
      ap (λ (x : List ℕ). length (body_of x)) is.split,
      ap (λ (x : List ℕ). length x) (body_before is.body [] is.no_end),
      ap (λ (x : List ℕ). length x) is.split,
      length-append is.body (10 ∷ []),
      few,
    )

number_short : (word : List ℕ) (n most : ℕ) → HasNoEnd word → n < 2 ^ 128 → length word + 40 ≤ most →
    length (body_of (number_line word n)) ≤ most
number_short word n most none small few =
    line_short (number_line word n) most (number_line_is_line word n none)
    (omega (
      arith,
      length-append (word ++ space ++ number_text n) (10 ∷ []),
      length-append (word ++ space) (number_text n),
      length-append word space,
      cost_length n small,
      few,
    ))

-- the numbers of machines
machines_few : (ms : List Machine) → ((p : ℕ) → p < length ms → machine_at ms p < 10 ^ 4) →
    length (machines_text ms) ≤ 5 * length ms
unfolding machines_text machine_at
machines_few [] below = omega arith
machines_few (m ∷ ms) below =
    let first : length (number_text m.0) ≤ 4 = text_length 3 m.0 (below 0 (omega arith)) in
    let others : length (machines_text ms) ≤ 5 * length ms =
    machines_few ms (λ p within. below (suc p) (omega (arith, within))) in
    omega (arith, first, others, length-append (space ++ number_text m.0) (machines_text ms))

assignment_short : (i : Tables) (a : List Machine) → WellFormed i → IsAssignment i a →
    length (body_of (assignment_line a)) ≤ 600000
unfolding assignment_line
assignment_short i a limits fits =
    line_short (assignment_line a) 600000 (assignment_is_line a)
    (omega (
      arith,
      length-append (codes "assignment" ++ machines_text a) (10 ∷ []),
      length-append (codes "assignment") (machines_text a),
      machines_few a
          (λ p within. lt_trans (fits.in_range p (omega (arith, within, fits.one_each)))
          (omega (arith, limits.few_machines))),
      fits.one_each,
      limits.few_processes,
    ))

-- lines, from line n on, that are not over long
AreShort : ℕ → List (List ℕ) → Type 0
AreShort n [] = Unit {0}
AreShort n (line ∷ lines) = (length (body_of line) ≤ most_bytes n) × AreShort (suc n) lines

some_same : (x y : List ℕ) → Some x ≡ Some y → x ≡ y
some_same x y e = ap (λ (o : Option (List ℕ)). unwrap_or o []) e

short_there : (n : ℕ) (lines : List (List ℕ)) (k : ℕ) (line : List ℕ) → AreShort n lines →
    slice_get lines k ≡ Some line → length (body_of line) ≤ most_bytes (n + k)
unfolding AreShort
short_there n [] k line short is = absurd (none-some line is)
short_there n (l ∷ lines) zero line short is = let same : l ≡ line = some_same l line is in
    subst (λ x. length (body_of x) ≤ most_bytes (n + 0)) same
    (subst (λ m. length (body_of l) ≤ most_bytes m) {x = n} {y = n + 0} (omega arith) short.0)
short_there n (l ∷ lines) (suc k) line short is = subst (λ m. length (body_of line) ≤ most_bytes m) {x = suc n + k}
    {y = n + suc k} (omega arith) (short_there (suc n) lines k line short.1 is)

drawing_few : (d : Drawing) → drawing_number d < 2 ^ 128
unfolding drawing_number
drawing_few One = omega arith
drawing_few Two = omega arith

-- the ten lines of a report of a legal journal
heads_short : (o : Opening) (h : List Entry) → WellFormed o.tables → Small o.tables →
    IsAssignment o.tables o.start → Feasible o.tables o.start o.start → Legal o h →
    AreShort 0 (head_lines (parts_at (state_at o h (best_of o h))) (pinned_bound_of o.tables o.start).total (best_of o h)
    (state o.start h (best_of o h)) o.lots.drawing)
unfolding AreShort head_lines most_bytes parts_of best_of body_of
heads_short o h limits numbers fits feasible legal =
    let j = best_of o h in
    let st = state_at o h j in
    let within : j ≤ length h = best_within o h (length h) in
    let right = sound o h limits fits feasible legal j within in
    let cost = objective_under o.tables o.start st.here limits numbers in
    let bound = (none_costs_less_pinned o.tables o.start st.here limits right.assignment right.feasible).total in (
      number_short (codes "cost") (cost_at st) 64 refl (omega (arith, cost)) (omega arith),
      (
        number_short (codes "load") _ 64 refl (omega (arith, load_under o.tables st.here limits numbers)) (omega arith),
        (
          number_short (codes "balance") _ 64 refl (omega (arith, balance_under o.tables st.here limits numbers))
              (omega arith),
          (
            number_short (codes "process") _ 64 refl
                (omega (arith, process_under o.tables o.start st.here limits numbers)) (omega arith),
            (
              number_short (codes "service") _ 64 refl
                  (omega (arith, service_under o.tables o.start st.here limits numbers))
                  (omega arith),
              (
                number_short (codes "machine") _ 64 refl
                    (omega (arith, machine_under o.tables o.start st.here limits numbers))
                    (omega arith),
                (
                  number_short (codes "bound") (pinned_bound_of o.tables o.start).total 64 refl
                      (omega (arith, bound, cost))
                      (omega arith),
                  (
                    number_short (codes "best_at") j 64 refl (omega (arith, within, few_entries o h legal))
                        (omega arith),
                    (
                      assignment_short o.tables st.here limits right.assignment,
                      (
                        number_short (codes "draws") (drawing_number o.lots.drawing) 64 refl
                            (drawing_few o.lots.drawing)
                            (omega arith),
                        tt,
                      ),
                    ),
                  ),
                ),
              ),
            ),
          ),
        ),
      ),
    )

-- none of them is over long
report_short : (o : Opening) (h : List Entry) (k : ℕ) → WellFormed o.tables → Small o.tables →
    IsAssignment o.tables o.start → Feasible o.tables o.start o.start → Legal o h → k < 10 →
    over_long (report_text o h) k ≡ None
unfolding line_at report_head head_lines
report_short o h k limits numbers fits feasible legal within =
    let j = best_of o h in
    let st = state_at o h j in
    let lines = head_lines (parts_at st) (pinned_bound_of o.tables o.start).total j st.here o.lots.drawing in
    let head : lines_of (report_head o h) ≡ lines =
    head_alone (parts_at st) (pinned_bound_of o.tables o.start).total j st.here o.lots.drawing in
    let there : slice_get lines k ≡ Some (get_or lines k []) = slice_get-get_or lines k [] within in
    let at : line_at k (report_text o h) ≡ Some (get_or lines k []) = report_at o h k within
    ∙ ap (λ (t : List (List ℕ)). slice_get t k) head ∙ there in
    short_at (report_text o h) (get_or lines k []) k at
    (subst (λ (m : ℕ). length (body_of (get_or lines k [])) ≤ most_bytes m) {x = 0 + k} {y = k} (omega arith)
    (short_there 0 lines k (get_or lines k []) (heads_short o h limits numbers fits feasible legal) there))

pub report_has_none_wrong : ReportHasNoneWrong
report_has_none_wrong o bytes n limits numbers fits feasible is = rw is.text (record {
  short = none_over (report_text o is.journal)
      (λ k within. report_short o is.journal k limits numbers fits feasible is.legal within);
  journal = is.journal;
  right = record {
    right = record { legal = is.legal; lines = λ j within. report_entry_at o is.journal j within };
    all = omega (arith, report_long o is.journal);
  };
  whole = is.whole;
  head = λ k within. refl;
})
