-- What a report's head and its entry lines say of the wrong line.
use Rattle.std.proofs.Common.{◌≡◌, ℕ, ◌+◌, ◌<◌, ◌≤◌, inl, inr, List, [], ◌++◌, length, drop, slice_get, Some, sym, ap, ◌∙◌, subst, ⊎_elim, arith}
use Rattle.std.proofs.lemmas.Bool.{cases_lt}
use Rattle.std.proofs.lemmas.List.{append-nil}
use Rattle.std.proofs.lemmas.Option.{slice_get_past}
use Rattle.ra_token.specs.Lines.{lines_of, line_at, FirstUnlike}
use Rattle.ra_journal.specs.declared.entries.Entry.{Entry}
use Rattle.ra_journal.specs.Legal.{Whole}
use Rattle.ra_journal.specs.Openings.{Opening}
use Rattle.ra_journal.specs.Journals.{History, opening_in}
use Rattle.ra_report.specs.JournalTexts.{report_head, report_text, head_of}
use Rattle.ra_report.proofs.LineEnds.{head_line_count}
use Rattle.ra_verify.specs.Judging.{IsAccepted, IsUnfinished, HasUnlike, IsMisjudged}
use Rattle.ra_verify.specs.Reading.{AreFirstLines, IsHead, IsWrongNext}
use Rattle.ra_verify.specs.WrongLines.{AreAllRight, IsCutOff, IsWrongHead, NoneIsWrong, IsWrongLine, IsReport}
use Rattle.ra_verify.proofs.PlaceLemmas.{got_left}
use Rattle.ra_verify.proofs.ReadingLemmas.{lines_end, none_over}
use Rattle.ra_verify.proofs.ReportLemmas.{report_at, is_report}

-- the first lines of a report are those of its head
pub head_at : (bytes head : List ℕ) (place n k : ℕ) → IsHead bytes place n head → k < 10 →
    line_at k bytes ≡ line_at k head
unfolding line_at lines_of
head_at bytes head place n k is within =
    let lines : lines_of bytes ≡ lines_of head ++ lines_of (drop place bytes) = is.first.given.lines
    ∙ ap (λ (t : List ℕ). lines_of t ++ lines_of (drop place bytes)) (sym is.text) in
    let long : length (lines_of head) ≡ n = ap (λ (t : List ℕ). length (lines_of t)) is.text ∙ is.first.given.number in
    ⊎_elim
    (λ (there : k < n). ap (λ (t : List (List ℕ)). slice_get t k) lines
    ∙ got_left (lines_of head) (lines_of (drop place bytes)) k (omega (arith, there, long)))
    (λ (past : n ≤ k).
    let none : drop place bytes ≡ [] = is.first.all (omega (arith, past, within)) in
    ap (λ (t : List (List ℕ)). slice_get t k) (lines ∙ ap (λ (t : List ℕ). lines_of head ++ lines_of t) none
    ∙ append-nil (lines_of head)))
    (cases_lt k n)

-- the head of a journal's report
pub head_is : (o : Opening) (j : History) → opening_in j ≡ o → head_of j ≡ report_head o j.entries
unfolding head_of
head_is o j same = ap (λ (p : Opening). report_head p j.entries) same

pub accepted : (o : Opening) (bytes head : List ℕ) (place lines n : ℕ) (j : History) →
    opening_in j ≡ o → IsHead bytes place lines head →
    AreAllRight o bytes j.entries → IsAccepted j head n → NoneIsWrong o bytes
accepted o bytes head place lines n j same is right judged = record {
  short = none_over bytes is.short;
  journal = j.entries;
  right = right;
  whole = subst (λ (p : Opening). Whole p.lots j.entries) same judged.whole;
  head = λ k within. head_at bytes head place lines k is within
      ∙ ap (line_at k) (judged.text ∙ head_is o j same)
      ∙ sym (report_at o j.entries k within);
}

pub reported : (o : Opening) (bytes head : List ℕ) (place lines n : ℕ) (j : History) →
    opening_in j ≡ o → IsHead bytes place lines head →
    AreAllRight o bytes j.entries → IsAccepted j head n → IsReport o bytes n
unfolding accepted
reported o bytes head place lines n j same is right judged =
    is_report o bytes n (accepted o bytes head place lines n j same is right judged)
    (sym judged.number)

-- an entry line that isn't right
pub wrong_entry : (o : Opening) (bytes head : List ℕ) (place lines n : ℕ)
    (h : List Entry) → IsHead bytes place lines head → IsWrongNext o bytes h n → IsWrongLine o bytes (Some n)
wrong_entry o bytes head place lines n h is next = inr (inl (record {
  short = none_over bytes is.short;
  journal = h;
  right = next.right;
  there = next.there;
  wrong = next.wrong;
  number = next.number;
}))

-- what isn't whole
cut_off : (o : Opening) (bytes head : List ℕ) (place lines n : ℕ) (j : History) →
    opening_in j ≡ o → IsHead bytes place lines head → AreAllRight o bytes j.entries →
    length (lines_of bytes) ≡ lines + length j.entries → IsUnfinished j lines n → IsCutOff o bytes n
cut_off o bytes head place lines n j same is right long unfinished = record {
  short = none_over bytes is.short;
  journal = j.entries;
  right = right;
  not_whole = λ whole. unfinished.not_whole
      (subst (λ (p : Opening). Whole p.lots j.entries) (sym same) whole);
  number = omega (arith, unfinished.number, long);
}

-- and a head that is another
unlike_ten : (head report : List ℕ) (place : ℕ) → length (lines_of head) ≤ 10 → length (lines_of report) ≡ 10 →
    FirstUnlike head report place → place < 10
unfolding line_at
unlike_ten head report place few ten unlike = ⊎_elim
    (λ (within : place < 10). within)
    (λ (past : 10 ≤ place).
    absurd (unlike.here (slice_get_past (lines_of head) place (omega (arith, few, past))
    ∙ sym (slice_get_past (lines_of report) place (omega (arith, ten, past))))))
    (cases_lt place 10)

wrong_head : (o : Opening) (bytes head : List ℕ) (place lines n : ℕ) (j : History) →
    opening_in j ≡ o → IsHead bytes place lines head →
    AreAllRight o bytes j.entries → HasUnlike j head n → IsWrongHead o bytes n
wrong_head o bytes head place lines n j opened is right judged =
    let h = j.entries in
    let few : length (lines_of head) ≤ 10 =
    omega (arith, ap (λ (t : List ℕ). length (lines_of t)) is.text, is.first.given.number, is.first.few) in
    let same : head_of j ≡ report_head o h = head_is o j opened in
    let ten : length (lines_of (head_of j)) ≡ 10 = ap (λ (t : List ℕ). length (lines_of t)) same
    ∙ head_line_count o h in
    let within : judged.place < 10 = unlike_ten head (head_of j) judged.place few ten judged.unlike in
    let report : (k : ℕ) → k < 10 → line_at k (head_of j) ≡ line_at k (report_text o h) =
    λ k there. ap (line_at k) same ∙ sym (report_at o h k there) in
    record {
      short = none_over bytes is.short;
      journal = h;
      right = right;
      whole = subst (λ (p : Opening). Whole p.lots h) opened judged.whole;
      place = judged.place;
      within = within;
      unlike = record {
        before = λ m less. head_at bytes head place lines m is (omega (arith, less, within))
            ∙ judged.unlike.before m less ∙ report m (omega (arith, less, within));
        here = λ e. judged.unlike.here (sym (head_at bytes head place lines judged.place is within) ∙ e
            ∙ sym (report judged.place within));
      };
      number = judged.number;
    }

pub misjudged : (o : Opening) (bytes head : List ℕ) (place lines n : ℕ) (j : History) →
    opening_in j ≡ o → IsHead bytes place lines head →
    AreAllRight o bytes j.entries → length (lines_of bytes) ≡ lines + length j.entries →
    IsMisjudged j head lines n → IsWrongLine o bytes (Some n)
misjudged o bytes head place lines n j same is right long (inl unfinished) =
    inr (inr (inl (cut_off o bytes head place lines n j same is right long unfinished)))
misjudged o bytes head place lines n j same is right long (inr unlike) =
    inr (inr (inr (wrong_head o bytes head place lines n j same is right unlike)))

pub no_more : (bytes : List ℕ) (place lines : ℕ) (h : List Entry) → h ≡ [] → AreFirstLines bytes place lines →
    lines < 10 → length (lines_of bytes) ≡ lines + length h
no_more bytes place lines h none first few =
    omega (arith, lines_end bytes place lines first.given (first.all few), ap (λ (x : List Entry). length x) none)
