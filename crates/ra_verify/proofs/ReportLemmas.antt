-- The lines of a report's text.
use Rattle.std.proofs.Common.{◌≡◌, ℕ, zero, suc, ◌+◌, ◌-◌, ◌<◌, ◌≤◌, List, [], ◌∷◌, ◌++◌, length, slice_get, Some, refl, sym, ap, ◌∙◌, ⊎_elim, arith, length-append}
use Rattle.std.proofs.lemmas.Bool.{cases_lt}
use Rattle.std.proofs.lemmas.List.{append-nil}
use Rattle.std.proofs.lemmas.Option.{slice_get_past}
use Rattle.ra_token.specs.Lines.{lines_of, line_at, joined_lines}
use Rattle.ra_token.proofs.SplitLaws.{joined_back}
use Rattle.ra_journal.specs.declared.entries.Entry.{Entry}
use Rattle.ra_journal.specs.Entries.{entry_at}
use Rattle.ra_journal.specs.Openings.{Opening}
use Rattle.ra_report.specs.JournalTexts.{entry_line, entry_lines, entries_text, report_head, report_text}
use Rattle.ra_report.proofs.LineEnds.{head_line_count, head_before, entries_before}
use Rattle.ra_report.proofs.ReportTexts.{report_parts}
use Rattle.ra_verify.specs.WrongLines.{NoneIsWrong, IsReport}
use Rattle.ra_verify.proofs.PlaceLemmas.{got_left, got_behind, got_all}

-- the lines of entries
entry_count : (h : List Entry) (n : ℕ) → length (entry_lines h n) ≡ n
unfolding entry_lines
entry_count h zero = refl
entry_count h (suc n) =
    omega (arith, length-append (entry_lines h n) (entry_line n (entry_at h n) ∷ []), entry_count h n)

entry_there : (h : List Entry) (n j : ℕ) → j < n → slice_get (entry_lines h n) j ≡ Some (entry_line j (entry_at h j))
unfolding entry_lines
entry_there h zero j within = absurd (omega (arith, within))
entry_there h (suc n) j within = ⊎_elim
    (λ (less : j < n). got_left (entry_lines h n) (entry_line n (entry_at h n) ∷ []) j
    (omega (arith, less, entry_count h n)) ∙ entry_there h n j less)
    (λ (last : n ≤ j).
    let here : j ≡ n = omega (arith, last, within) in
    ap (slice_get (entry_lines h n ++ entry_line n (entry_at h n) ∷ [])) {x = j} {y = length (entry_lines h n) + 0}
    (omega (arith, here, entry_count h n))
    ∙ got_behind (entry_lines h n) (entry_line n (entry_at h n) ∷ []) 0
    ∙ ap (λ (k : ℕ). Some (entry_line k (entry_at h k))) (sym here))
    (cases_lt j n)

-- the lines of a report are those of its head and those of its entries
pub report_lines_are : (o : Opening) (h : List Entry) →
    lines_of (report_text o h) ≡ lines_of (report_head o h) ++ entry_lines h (length h)
unfolding lines_of
report_lines_are o h =
    ap lines_of (report_parts o h)
    ∙ head_before o h (entries_text h (length h))
    ∙ ap (λ (t : List (List ℕ)). lines_of (report_head o h) ++ t)
    (ap lines_of (sym (append-nil (entries_text h (length h)))) ∙ entries_before h (length h) []
    ∙ append-nil (entry_lines h (length h)))

pub report_long : (o : Opening) (h : List Entry) → length (lines_of (report_text o h)) ≡ 10 + length h
report_long o h =
    omega (
      arith,
      ap (λ (t : List (List ℕ)). length t) (report_lines_are o h),
      length-append (lines_of (report_head o h)) (entry_lines h (length h)),
      head_line_count o h,
      entry_count h (length h),
    )

pub report_at : (o : Opening) (h : List Entry) (k : ℕ) → k < 10 →
    line_at k (report_text o h) ≡ line_at k (report_head o h)
unfolding line_at
report_at o h k within = ap (λ (t : List (List ℕ)). slice_get t k) (report_lines_are o h)
    ∙ got_left (lines_of (report_head o h)) (entry_lines h (length h)) k
    (omega (arith, within, head_line_count o h))

pub report_entry_at : (o : Opening) (h : List Entry) (j : ℕ) → j < length h →
    line_at (10 + j) (report_text o h) ≡ Some (entry_line j (entry_at h j))
unfolding line_at
report_entry_at o h j within =
    ap (λ (t : List (List ℕ)). slice_get t (10 + j)) (report_lines_are o h)
    ∙ ap (slice_get (lines_of (report_head o h) ++ entry_lines h (length h))) {x = 10 + j}
    {y = length (lines_of (report_head o h)) + j} (omega (arith, head_line_count o h))
    ∙ got_behind (lines_of (report_head o h)) (entry_lines h (length h)) j
    ∙ entry_there h (length h) j within

-- bytes with the lines of a report are the report
same_lines : (a b : List ℕ) → lines_of a ≡ lines_of b → a ≡ b
same_lines a b same = sym (joined_back a) ∙ ap joined_lines same ∙ joined_back b

none_wrong_at : (o : Opening) (bytes : List ℕ) (is : NoneIsWrong o bytes) (k : ℕ) →
    line_at k bytes ≡ line_at k (report_text o is.journal)
unfolding line_at
none_wrong_at o bytes is k = ⊎_elim
    (λ (head : k < 10). is.head k head)
    (λ (behind : 10 ≤ k).
    let split : k ≡ 10 + (k - 10) = omega (arith, behind) in
    ⊎_elim
    (λ (there : k - 10 < length is.journal).
    ap (λ (n : ℕ). line_at n bytes) split ∙ is.right.right.lines (k - 10) there
    ∙ sym (report_entry_at o is.journal (k - 10) there)
    ∙ ap (λ (n : ℕ). line_at n (report_text o is.journal)) (sym split))
    (λ (past : length is.journal ≤ k - 10).
    slice_get_past (lines_of bytes) k (omega (arith, past, behind, is.right.all))
    ∙ sym (slice_get_past (lines_of (report_text o is.journal)) k
    (omega (arith, past, behind, report_long o is.journal))))
    (cases_lt (k - 10) (length is.journal)))
    (cases_lt k 10)

pub is_report : (o : Opening) (bytes : List ℕ) (n : ℕ) → (is : NoneIsWrong o bytes) →
    length is.journal ≡ n → IsReport o bytes n
unfolding line_at
is_report o bytes n is number = record {
  journal = is.journal;
  legal = is.right.right.legal;
  whole = is.whole;
  text = same_lines bytes (report_text o is.journal)
      (got_all (lines_of bytes) (lines_of (report_text o is.journal)) (λ k. none_wrong_at o bytes is k));
  number = number;
}
