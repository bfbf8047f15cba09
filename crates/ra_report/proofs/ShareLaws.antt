-- The lines of a journal in shares, one after another.
use Rattle.std.proofs.Common.{◌≡◌, ℕ, zero, suc, ◌+◌, ◌<◌, ◌≤◌, List, [], ◌∷◌, ◌++◌, length, take, get_or, refl, sym, ◌∙◌, ap, append_assoc, arith, subst, add-one, eq-or-lt_of_le, ⊎_elim, Option}
use Rattle.std.proofs.lemmas.List.{append-nil, take_more}
use Rattle.ra_journal.specs.declared.entries.Entry.{Entry}
use Rattle.ra_journal.specs.Entries.{entry_at}
use Rattle.ra_report.specs.declared.gathered.Gathered.{Gathered}
use Rattle.ra_report.specs.Gathering.{AddsText}
use Rattle.ra_report.specs.Pieces.{joined}
use Rattle.ra_report.proofs.GatheringLemmas.{adds_more}
use Rattle.ra_report.specs.JournalTexts.{entries_text, entry_line}
use Rattle.ra_report.specs.Shares.{share_start, AreLinesOfEntries, IsShare}

module _ (h : List Entry) where
  pub lines_none : (m : ℕ) → AreLinesOfEntries h m m []
  lines_none m = sym (append-nil _)

  -- some lines after others
  pub lines_more : (m n o : ℕ) (s t : List ℕ) → AreLinesOfEntries h m n s → AreLinesOfEntries h n o t →
      AreLinesOfEntries h m o (s ++ t)
  lines_more m n o s t first next =
      next ∙ (ap (λ l. l ++ t) first ∙ append_assoc _ s t)

  -- one line more
  pub line_more : (m n : ℕ) (s : List ℕ) → AreLinesOfEntries h m n s →
      AreLinesOfEntries h m (n + 1) (s ++ entry_line n (entry_at h n))
  unfolding entries_text
  line_more m n s first = grind (arith, add-one, lines_more)

  -- texts of the entries between places, one after another
  pub parts_are_lines : (place : ℕ → ℕ) (parts : List (List ℕ))
      → ((n : ℕ) → n < length parts → AreLinesOfEntries h (place n) (place (suc n)) (get_or parts n [])) →
      AreLinesOfEntries h (place 0) (place (length parts)) (joined parts)
  parts_are_lines place [] each = lines_none (place 0)
  parts_are_lines place (part ∷ parts) each =
      lines_more (place 0) (place 1) (place (suc (length parts))) part _ (each 0 (omega arith))
      (parts_are_lines (λ n. place (suc n)) parts (λ n below. each (suc n) (omega arith)))

  -- all shares of some desks
  pub shares_are_lines : (from : ℕ) (parts : List (List ℕ)) → from < length h
      → ((n : ℕ) (d : List ℕ) → n < length parts → IsShare h from n (get_or parts n d)) →
      AreLinesOfEntries h from (share_start h from (length parts)) (joined parts)
  unfolding share_start
  shares_are_lines from parts within each =
      let first : share_start h from 0 ≡ from = omega arith in
      subst (λ m. AreLinesOfEntries h m (share_start h from (length parts)) (joined parts)) first
      (parts_are_lines (share_start h from) parts
      (λ n below. subst (λ k. AreLinesOfEntries h (share_start h from n) (share_start h from k) (get_or parts n []))
      (add-one n) (each n [] below)))

  -- with a desk and an entry a share is written
  pub share_on : (from n : ℕ) → from < length h → 1 ≤ n → from < share_start h from n
  unfolding share_start
  share_on from n within some = omega arith

  pub share_within : (from n : ℕ) → share_start h from n ≤ length h
  unfolding share_start
  share_within from n = omega arith

  -- what is left of the lines
  pub rest_after : (m n : ℕ) → m ≤ n → (rest : List ℕ) × AreLinesOfEntries h m n rest
  unfolding entries_text
  rest_after m zero within = rw (let same : m ≡ 0 = omega arith in same) ([], lines_none 0)
  rest_after m (suc n) within =
      ⊎_elim (λ (same : m ≡ suc n). rw same ([], lines_none (suc n)))
      (λ (less : m < suc n).
      let before = rest_after m n (omega arith) in
      (before.0 ++ entry_line n (entry_at h n), lines_more m n (suc n) before.0 (entry_line n (entry_at h n)) before.1 refl))
      (eq-or-lt_of_le within)

pub joined_append : (xs ys : List (List ℕ)) → joined (xs ++ ys) ≡ joined xs ++ joined ys
joined_append [] ys = refl
joined_append (x ∷ xs) ys =
    ap (λ t. x ++ t) (joined_append xs ys) ∙ sym (append_assoc x _ _)

-- one text more
pub joined_take : (xs : List (List ℕ)) (i : ℕ) (d : List ℕ) → i < length xs →
    joined (take (i + 1) xs) ≡ joined (take i xs) ++ get_or xs i d
joined_take xs i d within =
    ap joined (take_more xs i d within) ∙ joined_append (take i xs) _
    ∙ ap (λ t. joined (take i xs) ++ t) (append-nil _)

-- and one text more is added
pub adds_joined : {O : Type 0} (taken : O → Option (List ℕ)) (faults : O → ℕ) (xs : List (List ℕ)) (i : ℕ) (d : List ℕ)
    (a b c : Gathered O) → i < length xs
    → AddsText taken faults a b (joined (take i xs)) → AddsText taken faults b c (get_or xs i d) →
    AddsText taken faults a c (joined (take (i + 1) xs))
adds_joined taken faults xs i d a b c within first next =
    rw (joined_take xs i d within) (adds_more taken faults a b c (joined (take i xs)) _ first next)
