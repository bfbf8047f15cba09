-- A row of numbers, a chunk at a time, and a chunk from its last number to its first.
use Rattle.std.proofs.Common.{◌≡◌, ℕ, zero, suc, ◌+◌, ◌-◌, ◌*◌, ◌^◌, ◌<◌, ◌≤◌, List, [], ◌∷◌, ◌++◌, length, take, drop, get_or, Option, refl, sym, ap, subst, ◌∙◌, arith, add-one, append_assoc}
use Rattle.std.proofs.Math.Seq.{drop-cons, drop-length}
use Rattle.std.proofs.lemmas.Grind.{flat_map-append}
use Rattle.std.proofs.lemmas.List.{append-nil, take_all}
use Rattle.std.specs.List.{flat_map}
use Rattle.ra_report.specs.declared.gathered.Gathered.{Gathered}
use Rattle.ra_report.specs.Gathering.{AddsText}
use Rattle.ra_report.specs.Lines.{Prepends}
use Rattle.ra_report.specs.Texts.{number_text}
use Rattle.ra_model_text.specs.ModelLines.{spaced, number_word, numbers_text}
use Rattle.ra_report.proofs.GatheringLemmas.{adds_none, adds_more}
use Rattle.ra_report.proofs.LineLemmas.{in_front, at_most, alone, before_is}
use Rattle.ra_report.proofs.NumberTexts.{number_std}
use Rattle.ra_report.proofs.PieceLemmas.{words_take}

-- no number of a list is written yet
pub no_number : (line numbers : List ℕ) (n : ℕ) → line ≡ [] → n ≡ length numbers →
    Prepends [] line (numbers_text (drop n numbers)) (21 * (length numbers - n))
unfolding numbers_text
no_number line numbers n none all =
    rw (all, drop-length) (at_most {m = 0} _ (omega arith) (before_is none (omega arith)))

numbers_more : (numbers : List ℕ) (i : ℕ) → i < length numbers →
    numbers_text (drop i numbers) ≡ number_word (get_or numbers i 0) ++ numbers_text (drop (i + 1) numbers)
unfolding numbers_text
numbers_more numbers i within =
    ap (flat_map number_word)
    (let h : drop i numbers ≡ get_or numbers i 0 ∷ drop (i + 1) numbers = rw (add-one, drop-cons numbers i 0) in h)

-- a small number is written in decimal
pub in_decimal : {b c : List ℕ} {n : ℕ} → Prepends b c (32 ∷ number_text n) 21 → n < 2 ^ 128 →
    Prepends b c (number_word n) 21
in_decimal {b} {c} {n} before small = rw (number_std n small) at before

-- one number more in front
pub one_number_more : {a b c : List ℕ} (numbers : List ℕ) (i n : ℕ) → n ≡ i + 1 → n ≤ length numbers
    → Prepends a b (numbers_text (drop n numbers)) (21 * (length numbers - n)) →
    Prepends b c (number_word (get_or numbers i 0)) 21
    → Prepends a c (numbers_text (drop i numbers)) (21 * (length numbers - i))
one_number_more numbers i n next within before more =
    let some : i < length numbers = omega arith in
    rw (numbers_more numbers i some, ← next) (at_most _ (omega arith) (in_front before more))

-- all are written
pub all_numbers : {line : List ℕ} {most : ℕ} (numbers : List ℕ) (n : ℕ) → n ≡ 0
    → Prepends [] line (numbers_text (drop n numbers)) most → line ≡ numbers_text numbers
all_numbers numbers n none before = alone refl (rw none at before)

-- the numbers of a list that are those of a row
numbers_to : (numbers : List ℕ) (f : ℕ → ℕ) → ((k : ℕ) → k < length numbers → get_or numbers k 0 ≡ f k) → (n : ℕ)
    → n ≤ length numbers → numbers_text (take n numbers) ≡ spaced n f
unfolding numbers_text spaced
numbers_to numbers f each zero within = refl
numbers_to numbers f each (suc n) within =
    let some : n < length numbers = omega arith in
    ap (λ (j : ℕ). flat_map number_word (take j numbers)) (sym (add-one n))
    ∙ (words_take number_word numbers n 0 some
    ∙ (ap (λ (t : List ℕ). t ++ number_word (get_or numbers n 0)) (numbers_to numbers f each n (omega arith))
    ∙ ap (λ (x : ℕ). spaced n f ++ number_word x) (each n some)))

pub numbers_row : (numbers : List ℕ) (n : ℕ) (f : ℕ → ℕ) → length numbers ≡ n
    → ((k : ℕ) → k < n → get_or numbers k 0 ≡ f k) → numbers_text numbers ≡ spaced n f
numbers_row numbers n f count each =
    ap numbers_text (sym (take_all n numbers (omega arith)))
    ∙ numbers_to numbers f (λ k within. each k (omega arith)) n (omega arith)

module _ {O : Type 0} (taken : O → Option (List ℕ)) (faults : O → ℕ) where
  -- what was added of the numbers of a list, and what is left of them
  pub record Reached (numbers rest : List ℕ) (a b : Gathered O) : Type 0 where
    pub done : List ℕ
    pub parts : done ++ rest ≡ numbers
    pub adds : AddsText taken faults a b (numbers_text done)

  -- none, one more chunk, and all
  pub no_chunk : (numbers rest : List ℕ) (a : Gathered O) → rest ≡ numbers → Reached numbers rest a a
  unfolding numbers_text
  no_chunk numbers rest a all = record { done = []; parts = all; adds = adds_none taken faults a }

  pub chunk_more : (numbers chunk before rest : List ℕ) (a b c : Gathered O) → before ≡ chunk ++ rest →
      Reached numbers before a b → AddsText taken faults b c (numbers_text chunk) → Reached numbers rest a c
  unfolding numbers_text
  chunk_more numbers chunk before rest a b c cut so_far next = record {
    done = so_far.done ++ chunk;
    parts = append_assoc so_far.done chunk rest ∙ (ap (λ (t : List ℕ). so_far.done ++ t) (sym cut) ∙ so_far.parts);
    adds = subst (AddsText taken faults a c) (sym (flat_map-append number_word so_far.done chunk))
        (adds_more taken faults a b c (numbers_text so_far.done) (numbers_text chunk) so_far.adds next);
  }

  pub all_chunks : (numbers rest : List ℕ) (a b : Gathered O) → rest ≡ [] → Reached numbers rest a b →
      AddsText taken faults a b (numbers_text numbers)
  all_chunks numbers rest a b none so_far =
      subst (λ (t : List ℕ). AddsText taken faults a b (numbers_text t))
      (sym (append-nil so_far.done) ∙ (ap (λ (t : List ℕ). so_far.done ++ t) (sym none) ∙ so_far.parts)) so_far.adds
