-- The lines of a journal tell it, and a report tells the lines of its journal.
use Rattle.std.proofs.Common.{◌≡◌, ℕ, zero, suc, ◌+◌, ◌<◌, ⊎_elim, List, [], ◌++◌, length, Option, refl, sym, ◌∙◌, ap, arith, append_assoc, length-append, subst, add-one, eq-or-lt_of_le, le_of_suc-le-suc}
use Rattle.std.proofs.lemmas.List.{append-nil, ext_get_or}
use Rattle.ra_journal.specs.declared.entries.Entry.{Entry}
use Rattle.ra_journal.specs.Entries.{entry_at}
use Rattle.ra_report.specs.JournalTexts.{entry_line, entries_text, IsJournalOf}
use Rattle.ra_report.specs.declared.gathered.Gathered.{Gathered}
use Rattle.ra_report.specs.Gathering.{AddsText}
use Rattle.ra_report.proofs.GatheringLemmas.{adds_more}
use Rattle.ra_report.proofs.EntryTexts.{entry_then, line_some}

-- the first n entries are the same
pub record SameBelow (h k : List Entry) (n : ℕ) : Type 0 where
  pub each : (j : ℕ) → j < n → entry_at h j ≡ entry_at k j

-- and what follows is the same
pub record AllSame (h k : List Entry) (n : ℕ) (x y : List ℕ) : Type 0 where
  pub same : SameBelow h k n
  pub rest : x ≡ y

one_line_more : (h : List Entry) (n : ℕ) (x : List ℕ) →
    entries_text h (suc n) ++ x ≡ entries_text h n ++ (entry_line n (entry_at h n) ++ x)
unfolding entries_text
one_line_more h n x = append_assoc _ _ x

-- the lines after the first n, in a journal of more
record Longer (h : List Entry) (n m : ℕ) : Type 0 where
  pub more : List ℕ
  pub some : 0 < length more
  pub split : entries_text h m ≡ entries_text h n ++ more

module _ (h : List Entry) (n : ℕ) where
  longer_by_one : (m : ℕ) → n ≡ m → Longer h n (suc m)
  unfolding entries_text
  longer_by_one m same = record {
    more = entry_line m (entry_at h m);
    some = subst (λ t. 0 < length t) (append-nil _) (line_some m (entry_at h m) []);
    split = rw same refl;
  }

  longer_by_more : (m : ℕ) → Longer h n m → Longer h n (suc m)
  unfolding entries_text
  longer_by_more m l = record {
    more = l.more ++ entry_line m (entry_at h m);
    some = let some = l.some in rw length-append (omega arith);
    split = rw l.split (append_assoc _ l.more _);
  }

  longer : (m : ℕ) → n < m → Longer h n m
  longer zero less = absurd (omega arith)
  longer (suc m) less = ⊎_elim (longer_by_one m) (λ within. longer_by_more m (longer m within))
      (eq-or-lt_of_le (le_of_suc-le-suc less))

module _ (h k : List Entry) where
  below_next : (n : ℕ) → SameBelow h k n → entry_at h n ≡ entry_at k n → SameBelow h k (suc n)
  below_next n below here = grind (arith, eq-or-lt_of_le, le_of_suc-le-suc)

  lines_then : (n : ℕ) (x y : List ℕ) → entries_text h n ++ x ≡ entries_text k n ++ y →
      AllSame h k n x y
  unfolding entries_text
  lines_then zero x y e = record { same = record { each = λ j within. absurd (omega arith) }; rest = e }
  lines_then (suc n) x y e =
      let before = lines_then n (entry_line n (entry_at h n) ++ x) (entry_line n (entry_at k n) ++ y)
      (sym (one_line_more h n x) ∙ (e ∙ one_line_more k n y)) in
      let here = entry_then n (entry_at h n) (entry_at k n) x y before.rest in
      record { same = below_next n before.same here.same; rest = here.rest }

-- no journal has the lines of a longer one
not_longer : (h k : List Entry) (n m : ℕ) → n < m → entries_text h n ≡ entries_text k m → ⊥
not_longer h k n m less e =
    let l = longer k n m less in
    let all = lines_then h k n [] l.more (append-nil _ ∙ (e ∙ l.split)) in
    let none : 0 ≡ length l.more = ap length all.rest in
    let some : 0 < length l.more = l.some in
    omega arith

module _ (h k : List Entry) where
  same_long : (n m : ℕ) → entries_text h n ≡ entries_text k m → n ≡ m
  same_long n m e =
      let no_less : n < m → ⊥ = λ less. not_longer h k n m less e in
      let no_more : m < n → ⊥ = λ more. not_longer k h m n more (sym e) in
      omega arith

  all_same : (n : ℕ) → SameBelow h k n → length h ≡ n → length k ≡ n → h ≡ k
  unfolding entry_at
  all_same n below one two = ext_get_or _ h k (one ∙ sym two) (λ j within. below.each j (rw (← one) within))

  pub same_lines_same_journal : entries_text h (length h) ≡ entries_text k (length k) → h ≡ k
  same_lines_same_journal e =
      let long : length h ≡ length k = same_long (length h) (length k) e in
      let all = lines_then h k (length h) [] []
      (append-nil _ ∙ (e ∙ (ap (entries_text k) (sym long) ∙ sym (append-nil _)))) in
      all_same (length h) all.same refl (sym long)

pub one_journal_of_bytes : (bytes : List ℕ) (h k : List Entry) → IsJournalOf bytes h → IsJournalOf bytes k → h ≡ k
one_journal_of_bytes bytes h k one two = same_lines_same_journal h k (let e = sym one ∙ two in (cc))

-- one more line
pub adds_line : {O : Type 0} (taken : O → Option (List ℕ)) (faults : O → ℕ) (h : List Entry) (n : ℕ)
    (a b c : Gathered O)
    → AddsText taken faults a b (entries_text h n) → AddsText taken faults b c (entry_line n (entry_at h n)) →
    AddsText taken faults a c (entries_text h (n + 1))
unfolding entries_text
adds_line taken faults h n a b c first next = grind (arith, add-one, adds_more)
