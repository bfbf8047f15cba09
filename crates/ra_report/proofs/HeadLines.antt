-- The ten lines before the entries of a report.
use Rattle.std.proofs.Common.{◌≡◌, ℕ, suc, ◌%◌, false, List, [], ◌∷◌, ◌++◌, Some, refl, ◌∙◌, ap, arith, append_assoc, codes}
use Rattle.std.specs.Fmt.{digit_glyph}
use Rattle.ra_base.specs.declared.causes.Drawing.{Drawing}
use Rattle.ra_base.specs.declared.costs.Parts.{Parts}
use Rattle.ra_base.specs.declared.ids.Machine.{Machine}
use Rattle.ra_bounds.specs.PinnedBounds.{pinned_bound_of}
use Rattle.ra_journal.specs.declared.entries.Entry.{Entry}
use Rattle.ra_journal.specs.Openings.{Opening}
use Rattle.ra_report.specs.Texts.{space, number_text, number_line, parts_text}
use Rattle.ra_report.specs.JournalTexts.{machines_text, assignment_line, drawing_number, drawing_line, head_text, report_lines, report_text, after_line, lines_left, IsJournalOf}
use Rattle.ra_report.proofs.NumberTexts.{number_skipped, glyph_of}

-- a digit ends no line
past_digit : (n : ℕ) (x : List ℕ) → after_line (digit_glyph false (n % 10) ∷ x) ≡ after_line x
unfolding after_line
past_digit n x = grind (arith, glyph_of)

number_passed : (n : ℕ) (x : List ℕ) → after_line (number_text n ++ x) ≡ after_line x
number_passed = number_skipped after_line past_digit

-- a word that ends no line
record NoEnd (word : List ℕ) : Type 0 where
  pub passed : (x : List ℕ) → after_line (word ++ x) ≡ after_line x

line_left : (n : ℕ) (bytes rest : List ℕ) → after_line bytes ≡ Some rest →
    lines_left (suc n) (Some bytes) ≡ lines_left n (Some rest)
unfolding lines_left
line_left n bytes rest e = ap (lines_left n) e

number_line_left : (word : List ℕ) → NoEnd word → (n a : ℕ) (x : List ℕ) →
    lines_left (suc n) (Some (number_line word a ++ x)) ≡ lines_left n (Some x)
unfolding after_line
number_line_left word no_end n a x =
    line_left n _ x (ap after_line parts ∙ (no_end.passed _ ∙ number_passed a _))
  where
    parts : number_line word a ++ x ≡ word ++ (32 ∷ (number_text a ++ 10 ∷ x))
    parts = simp append_assoc

machines_passed : (ms : List Machine) (x : List ℕ) → after_line (machines_text ms ++ x) ≡ after_line x
unfolding machines_text after_line
machines_passed [] x = refl
machines_passed (m ∷ ms) x = ap after_line (append_assoc (space ++ number_text m.0) (machines_text ms) x)
    ∙ (number_passed m.0 (machines_text ms ++ x) ∙ machines_passed ms x)

assignment_left : (n : ℕ) (a : List Machine) (x : List ℕ) → lines_left (suc n) (Some (assignment_line a ++ x)) ≡
    lines_left n (Some x)
unfolding assignment_line after_line
assignment_left n a x = line_left n _ x (ap after_line parts ∙ machines_passed a (10 ∷ x))
  where
    parts : assignment_line a ++ x ≡ codes "assignment" ++ (machines_text a ++ 10 ∷ x)
    parts = simp append_assoc

drawing_left : (n : ℕ) (d : Drawing) (x : List ℕ) → lines_left (suc n) (Some (drawing_line d ++ x)) ≡
    lines_left n (Some x)
unfolding after_line
drawing_left n d x = number_line_left (codes "draws") (record { passed = λ y. refl }) n (drawing_number d) x

five_texts : (a b c d e x : List ℕ) → ((((a ++ b) ++ c) ++ d) ++ e) ++ x ≡ a ++ (b ++ (c ++ (d ++ (e ++ x))))
five_texts a b c d e x = simp append_assoc

six_texts : (a b c d e f x : List ℕ) → (((((a ++ b) ++ c) ++ d) ++ e) ++ f) ++ x ≡
    a ++ (b ++ (c ++ (d ++ (e ++ (f ++ x)))))
six_texts a b c d e f x = simp append_assoc

parts_left : (parts : Parts) (x : List ℕ) → lines_left 10 (Some (parts_text parts ++ x)) ≡ lines_left 4 (Some x)
unfolding parts_text after_line
parts_left parts x =
    ap (λ t. lines_left 10 (Some t))
    (six_texts (number_line (codes "cost") parts.total) (number_line (codes "load") parts.load)
    (number_line (codes "balance") parts.balance) (number_line (codes "process") parts.process)
    (number_line (codes "service") parts.service) (number_line (codes "machine") parts.machine) x)
    ∙ (number_line_left (codes "cost") (record { passed = λ y. refl }) 9 parts.total _
    ∙ (number_line_left (codes "load") (record { passed = λ y. refl }) 8 parts.load _
    ∙ (number_line_left (codes "balance") (record { passed = λ y. refl }) 7 parts.balance _
    ∙ (number_line_left (codes "process") (record { passed = λ y. refl }) 6 parts.process _
    ∙ (number_line_left (codes "service") (record { passed = λ y. refl }) 5 parts.service _
    ∙ number_line_left (codes "machine") (record { passed = λ y. refl }) 4 parts.machine x)))))

head_left : (parts : Parts) (total best : ℕ) (a : List Machine) (d : Drawing) (x : List ℕ) →
    lines_left 10 (Some (head_text parts total best a d ++ x)) ≡ Some x
unfolding head_text after_line lines_left
head_left parts total best a d x =
    ap (λ (t : List ℕ). lines_left 10 (Some t))
    (five_texts (parts_text parts) (number_line (codes "bound") total) (number_line (codes "best_at") best)
    (assignment_line a) (drawing_line d) x)
    ∙ (parts_left parts _
    ∙ (number_line_left (codes "bound") (record { passed = λ y. refl }) 3 total _
    ∙ (number_line_left (codes "best_at") (record { passed = λ y. refl }) 2 best _
    ∙ (assignment_left 1 a _ ∙ drawing_left 0 d x))))

pub written_tells_its_journal : (parts : Parts) (total best : ℕ) (a : List Machine) (d : Drawing) (h : List Entry) →
    IsJournalOf (report_lines parts total best a d h) h
unfolding report_lines
written_tells_its_journal parts total best a d h = grind (arith, head_left)

pub report_tells_its_journal : (o : Opening) (h : List Entry) → IsJournalOf (report_text o h) h
unfolding report_text
report_tells_its_journal o h = written_tells_its_journal _ (pinned_bound_of o.tables o.start).total _ _ _ h
