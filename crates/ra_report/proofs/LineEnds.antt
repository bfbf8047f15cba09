-- The lines of a report: each has one LF, at its end.
use Rattle.std.proofs.Common.{◌≡◌, ℕ, zero, suc, ◌/◌, ◌%◌, ◌<◌, ◌≤◌, Bool, true, false, cond, eqb, List, [], ◌∷◌, ◌++◌, length, slice_get, Some, None, codes, refl, sym, ◌∙◌, ap, arith, append_assoc, ⊎_elim}
use Rattle.std.proofs.lemmas.Bool.{cases_lt}
use Rattle.std.proofs.lemmas.List.{append-nil}
use Rattle.std.proofs.lemmas.Option.{none-some, slice_get-get_or, slice_get_past}
use Rattle.std.specs.Fmt.{digits_onto, digit_glyph}
use Rattle.ra_base.specs.declared.causes.Cause.{Cause}
use Rattle.ra_base.specs.declared.causes.Cause.TheVariants.{Repeat, Same, Capacity, Transient, Conflict, Spread, Dependency, Rise, Closed}
use Rattle.ra_base.specs.declared.causes.Drawing.{Drawing}
use Rattle.ra_base.specs.declared.costs.Parts.{Parts}
use Rattle.ra_base.specs.declared.ids.Machine.{Machine}
use Rattle.ra_moves.specs.declared.steps.MoveKind.{MoveKind}
use Rattle.ra_moves.specs.declared.steps.MoveKind.TheVariants.{Shift, Swap, Chain}
use Rattle.ra_moves.specs.declared.steps.Step.{Step}
use Rattle.ra_moves.specs.declared.verdicts.Verdict.{Verdict}
use Rattle.ra_moves.specs.declared.verdicts.Verdict.TheVariants.{Done, Refused}
use Rattle.ra_journal.specs.declared.entries.Entry.{Entry}
use Rattle.ra_journal.specs.Entries.{entry_at}
use Rattle.ra_journal.specs.Openings.{Opening}
use Rattle.ra_journal.specs.Journals.{History, opening_in}
use Rattle.ra_token.specs.Lines.{lines_of, line_at, ends_line, body_of, HasNoEnd, FirstUnlike}
use Rattle.ra_token.proofs.BodyLaws.{no_end_none, no_end_first, no_end_cons, no_end_both, ends_behind}
use Rattle.ra_token.proofs.SplitLaws.{line_first, lines_append}
use Rattle.ra_report.specs.Texts.{space, number_text, number_line, parts_text, with_one, cause_text}
use Rattle.ra_report.specs.JournalTexts.{verdict_text, kind_text, step_text, steps_text, entry_front, entry_line, machines_text, assignment_line, drawing_number, drawing_line, head_text, report_head, head_of, entries_text, entry_lines, after_line}
use Rattle.ra_report.proofs.NumberTexts.{glyph_of}

-- a number has no LF
glyph_no_end : (n : ℕ) (x : List ℕ) → HasNoEnd x → HasNoEnd (digit_glyph false (n % 10) ∷ x)
glyph_no_end n x none = grind (arith, no_end_cons, glyph_of)

digits_no_end : (k n : ℕ) (x : List ℕ) → HasNoEnd x → HasNoEnd (digits_onto k 10 false n x)
digits_no_end zero n x none = none
digits_no_end (suc k) n x none =
    either (eqb (n / 10) 0) _ _ (glyph_no_end n x none)
    (digits_no_end k _ _ (glyph_no_end n x none))
  where
    either : (b : Bool) (xs ys : List ℕ) → HasNoEnd xs → HasNoEnd ys → HasNoEnd (cond b xs ys)
    either true xs ys p q = p
    either false xs ys p q = q

pub number_no_end : (n : ℕ) → HasNoEnd (number_text n)
unfolding number_text
number_no_end n = grind (arith, digits_no_end, no_end_none)

-- nor have words
space_no_end : HasNoEnd space
unfolding body_of
space_no_end = refl

word_no_end : (word : List ℕ) (n : ℕ) → HasNoEnd word → HasNoEnd (with_one word n)
word_no_end word n none = grind (arith, no_end_both, space_no_end, number_no_end)

cause_no_end : (c : Cause) → HasNoEnd (cause_text c)
unfolding cause_text body_of
cause_no_end (Repeat p) = word_no_end (codes "repeat") p.0 refl
cause_no_end (Same p) = word_no_end (codes "same") p.0 refl
cause_no_end (Capacity m r u c) =
    word_no_end _ c (word_no_end _ u (word_no_end _ r.0 (word_no_end (codes "capacity") m.0 refl)))
cause_no_end (Transient m r u c) =
    word_no_end _ c (word_no_end _ u (word_no_end _ r.0 (word_no_end (codes "transient") m.0 refl)))
cause_no_end (Conflict s m) = word_no_end _ m.0 (word_no_end (codes "conflict") s.0 refl)
cause_no_end (Spread s h w) = word_no_end _ w (word_no_end _ h (word_no_end (codes "spread") s.0 refl))
cause_no_end (Dependency s n h) = word_no_end _ h (word_no_end _ n.0 (word_no_end (codes "dependency") s.0 refl))
cause_no_end (Rise l b a) = word_no_end _ l (word_no_end _ a (word_no_end (codes "rise") b refl))
cause_no_end (Closed p m) = word_no_end _ m.0 (word_no_end (codes "closed") p.0 refl)

verdict_no_end : (v : Verdict) → HasNoEnd (verdict_text v)
unfolding verdict_text body_of
verdict_no_end (Done cost) = word_no_end (codes "done") cost refl
verdict_no_end (Refused cause) = no_end_both (codes "refused" ++ space) (cause_text cause) refl (cause_no_end cause)

kind_no_end : (k : MoveKind) → HasNoEnd (kind_text k)
unfolding kind_text body_of
kind_no_end Shift = refl
kind_no_end Swap = refl
kind_no_end Chain = refl

step_no_end : (s : Step) → HasNoEnd (step_text s ++ space)
unfolding step_text body_of
step_no_end s = grind (arith, no_end_both, number_no_end, space_no_end)

steps_no_end : (ss : List Step) → HasNoEnd (steps_text ss)
unfolding steps_text body_of
steps_no_end [] = refl
steps_no_end (s ∷ ss) = no_end_both _ _ (step_no_end s) (steps_no_end ss)

machines_no_end : (ms : List Machine) → HasNoEnd (machines_text ms)
unfolding machines_text body_of
machines_no_end [] = refl
machines_no_end (m ∷ ms) = no_end_both _ _
    (no_end_both space _ space_no_end (number_no_end m.0)) (machines_no_end ms)

-- a line: its words, and one LF
pub record IsLine (line : List ℕ) : Type 0 where
  pub body : List ℕ
  pub no_end : HasNoEnd body
  pub split : line ≡ body ++ 10 ∷ []

pub line_alone : (line : List ℕ) → IsLine line → lines_of line ≡ line ∷ []
unfolding lines_of
line_alone line is = grind (arith, line_first)

pub line_ends : (line : List ℕ) → IsLine line → ends_line line ≡ true
line_ends line is = ap ends_line is.split ∙ ends_behind is.body

-- in front of others it is the first of their lines
pub line_before : (line rest : List ℕ) → IsLine line → lines_of (line ++ rest) ≡ line ∷ lines_of rest
line_before line rest is = grind (arith, lines_append, line_ends, line_alone)

module _ (j : ℕ) (e : Entry) where
  front_no_end : HasNoEnd (number_text j ++ space ++ number_text e.worker ++ space ++ number_text e.k ++ space ++ number_text e.q ++
      space ++ kind_text e.mv.kind ++ space)
  front_no_end = grind (arith, no_end_both, number_no_end, space_no_end, kind_no_end)

  entry_front_no_end : HasNoEnd (entry_front j e)
  unfolding entry_front
  entry_front_no_end = front_no_end

  pub entry_is_line : IsLine (entry_line j e)
  unfolding entry_line
  entry_is_line = grind (arith, no_end_both, entry_front_no_end, steps_no_end, verdict_no_end)

pub number_line_is_line : (word : List ℕ) (n : ℕ) → HasNoEnd word → IsLine (number_line word n)
number_line_is_line word n none = grind (arith, word_no_end)

pub assignment_is_line : (a : List Machine) → IsLine (assignment_line a)
unfolding assignment_line body_of
assignment_is_line a = record {
  body = codes "assignment" ++ machines_text a;
  no_end = no_end_both (codes "assignment") (machines_text a) refl (machines_no_end a);
  split = refl;
}

pub drawing_is_line : (d : Drawing) → IsLine (drawing_line d)
unfolding body_of
drawing_is_line d = number_line_is_line (codes "draws") (drawing_number d) refl

-- the ten lines before the entries
unfoldable pub head_lines : Parts → ℕ → ℕ → List Machine → Drawing → List (List ℕ)
head_lines parts total best a d =
    number_line (codes "cost") parts.total
    ∷ number_line (codes "load") parts.load
    ∷ number_line (codes "balance") parts.balance
    ∷ number_line (codes "process") parts.process
    ∷ number_line (codes "service") parts.service
    ∷ number_line (codes "machine") parts.machine
    ∷ number_line (codes "bound") total
    ∷ number_line (codes "best_at") best
    ∷ assignment_line a
    ∷ drawing_line d
    ∷ []

ten_texts : (a b c d e f g h i j x : List ℕ) → (((((((((a ++ b) ++ c) ++ d) ++ e) ++ f) ++ g) ++ h) ++ i) ++ j) ++ x ≡
    a ++ (b ++ (c ++ (d ++ (e ++ (f ++ (g ++ (h ++ (i ++ (j ++ x)))))))))
ten_texts a b c d e f g h i j x = simp append_assoc

next_line : (line rest : List ℕ) (lines : List (List ℕ)) → IsLine line → lines_of rest ≡ lines →
    lines_of (line ++ rest) ≡ line ∷ lines
next_line line rest lines is e = grind (arith, line_before)

pub head_has_lines : (parts : Parts) (total best : ℕ) (a : List Machine) (d : Drawing) (x : List ℕ) →
    lines_of (head_text parts total best a d ++ x) ≡ head_lines parts total best a d ++ lines_of x
unfolding head_text parts_text head_lines body_of
head_has_lines parts total best a d x =
    ap lines_of (ten_texts (number_line (codes "cost") parts.total) (number_line (codes "load") parts.load)
    (number_line (codes "balance") parts.balance) (number_line (codes "process") parts.process)
    (number_line (codes "service") parts.service) (number_line (codes "machine") parts.machine)
    (number_line (codes "bound") total) (number_line (codes "best_at") best) (assignment_line a)
    (drawing_line d) x)
    ∙ next_line _ _ _ (number_line_is_line (codes "cost") parts.total refl)
    (next_line _ _ _ (number_line_is_line (codes "load") parts.load refl)
    (next_line _ _ _ (number_line_is_line (codes "balance") parts.balance refl)
    (next_line _ _ _ (number_line_is_line (codes "process") parts.process refl)
    (next_line _ _ _ (number_line_is_line (codes "service") parts.service refl)
    (next_line _ _ _ (number_line_is_line (codes "machine") parts.machine refl)
    (next_line _ _ _ (number_line_is_line (codes "bound") total refl)
    (next_line _ _ _ (number_line_is_line (codes "best_at") best refl)
    (next_line _ _ _ (assignment_is_line a)
    (next_line _ _ _ (drawing_is_line d) refl)))))))))

-- with nothing after it
pub head_alone : (parts : Parts) (total best : ℕ) (a : List Machine) (d : Drawing) →
    lines_of (head_text parts total best a d) ≡ head_lines parts total best a d
unfolding head_lines lines_of
head_alone parts total best a d =
    ap lines_of (sym (append-nil (head_text parts total best a d))) ∙ head_has_lines parts total best a d []

-- lines of two texts can't differ first after all lines of one of them
pub unlike_within : (a b : List ℕ) (n : ℕ) → FirstUnlike a b n → n ≤ length (lines_of b)
unfolding line_at
unlike_within a b n u = ⊎_elim
    (λ (past : length (lines_of b) < n).
    absurd (u.here (no_line a n (none_there past) past ∙ sym (slice_get_past (lines_of b) n (omega arith)))))
    (λ (within : n ≤ length (lines_of b)). within)
    (cases_lt (length (lines_of b)) n)
  where
    none_there : length (lines_of b) < n → slice_get (lines_of a) (length (lines_of b)) ≡ None
    none_there past =
        u.before (length (lines_of b)) past ∙ slice_get_past (lines_of b) (length (lines_of b)) (omega arith)

    no_line : (x : List ℕ) (m : ℕ) → slice_get (lines_of x) (length (lines_of b)) ≡ None → length (lines_of b) < m →
        slice_get (lines_of x) m ≡ None
    no_line x m none past = slice_get_past (lines_of x) m (⊎_elim
        (λ (inside : length (lines_of b) < length (lines_of x)).
        absurd (none-some _ (sym none ∙ slice_get-get_or (lines_of x) (length (lines_of b)) [] inside)))
        (λ (outside : length (lines_of x) ≤ length (lines_of b)). omega arith)
        (cases_lt (length (lines_of b)) (length (lines_of x))))

-- the head of a report has ten lines, and what follows has its own
pub head_line_count : (o : Opening) (h : List Entry) → length (lines_of (report_head o h)) ≡ 10
unfolding report_head head_lines
head_line_count o h = grind (arith, head_alone)

pub head_line_count_of : (j : History) → length (lines_of (head_of j)) ≡ 10
unfolding head_of
head_line_count_of j = head_line_count (opening_in j) j.entries

pub head_before : (o : Opening) (h : List Entry) (x : List ℕ) →
    lines_of (report_head o h ++ x) ≡ lines_of (report_head o h) ++ lines_of x
unfolding report_head
head_before o h x = grind (arith, head_has_lines, head_alone)

-- the lines of the first n entries
pub entries_before : (h : List Entry) (n : ℕ) (x : List ℕ) →
    lines_of (entries_text h n ++ x) ≡ entry_lines h n ++ lines_of x
unfolding entries_text entry_lines
entries_before h zero x = refl
entries_before h (suc n) x =
    ap lines_of (append_assoc (entries_text h n) (entry_line n (entry_at h n)) x)
    ∙ entries_before h n (entry_line n (entry_at h n) ++ x)
    ∙ ap (λ ls. entry_lines h n ++ ls) (line_before (entry_line n (entry_at h n)) x (entry_is_line n (entry_at h n)))
    ∙ sym (append_assoc (entry_lines h n) (entry_line n (entry_at h n) ∷ []) (lines_of x))

pub after_one : (body rest : List ℕ) → HasNoEnd body → after_line (body ++ 10 ∷ rest) ≡ Some rest
unfolding after_line
after_one [] rest none = refl
after_one (b ∷ body) rest none =
    let first = no_end_first b body none in
    ap (λ is. cond is (Some (body ++ 10 ∷ rest)) (after_line (body ++ 10 ∷ rest))) first.first
    ∙ after_one body rest first.rest
