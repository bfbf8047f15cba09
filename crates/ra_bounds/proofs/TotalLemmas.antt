-- Laws of lists with one sum for each resource.
use Rattle.std.proofs.Common.{◌≡◌, ℕ, ◌+◌, ◌^◌, ◌<◌, ◌≤◌, List, length, get_or, set, replicate, sym, ap, ◌∙◌, ⊎_elim}
use Rattle.std.proofs.Common.{arith, get_or-set_same, get_or-set_other, le_of_lt}
use Rattle.std.proofs.lemmas.Bool.{cases_lt}
use Rattle.std.proofs.lemmas.List.{get_or-replicate}
use Rattle.ra_base.specs.Sums.{total}
use Rattle.ra_base.proofs.Sums.{total_none, total_more, total_bound}
use Rattle.ra_bounds.specs.Totals.{AreTotals, ArePartTotals}

-- no row yet
pub totals_none : (columns : ℕ) (f : ℕ → ℕ → ℕ) → columns ≤ 20 → AreTotals columns 0 f (replicate 20 0)
totals_none columns f few = record {
  each = λ r within. get_or-replicate 20 r 0 0 (omega arith) ∙ sym (total_none (λ k. f k r));
}

-- the sums stay small
pub total_small : (n r : ℕ) (f : ℕ → ℕ → ℕ) → n ≤ 50000 → ((k j : ℕ) → f k j < 2 ^ 32) → total n (λ k. f k r) < 2 ^ 48
total_small n r f few small = omega (arith, total_bound n (2 ^ 32) (λ k. f k r) (λ k h. le_of_lt (small k r)))

module _ (columns n r amount : ℕ) (f : ℕ → ℕ → ℕ) (sums : List ℕ) (h : ArePartTotals columns n r f sums)
    (column : r < columns) where
  pub part_more : columns ≤ length sums → amount ≡ f n r →
      ArePartTotals columns n (r + 1) f (set sums r (get_or sums r 0 + amount))
  part_more all read = record {
    done = λ j within before. ⊎_elim
        (λ (earlier : j < r). get_or-set_other sums r j (get_or sums r 0 + amount) 0 (λ same. absurd (omega arith))
        ∙ h.done j within earlier)
        (λ (after : r ≤ j).
        let here : j ≡ r = omega arith in
        ap (λ k. get_or (set sums r (get_or sums r 0 + amount)) k 0) here
        ∙ get_or-set_same sums r (get_or sums r 0 + amount) 0 (omega arith)
        ∙ omega (arith, h.to_come r column (omega arith), read, total_more n (λ k. f k r))
        ∙ ap (λ c. total (n + 1) (λ k. f k c)) (sym here))
        (cases_lt j r);
    to_come = λ j within after. get_or-set_other sums r j (get_or sums r 0 + amount) 0 (λ same. absurd (omega arith))
        ∙ h.to_come j within (omega arith);
  }

  pub part_fits : n ≤ 50000 → ((k j : ℕ) → f k j < 2 ^ 32) → amount ≡ f n r → get_or sums r 0 + amount < 2 ^ 64
  part_fits few small read =
      omega (arith, h.to_come r column (omega arith), total_small n r f few small, small n r, read)

module _ (columns n : ℕ) (f : ℕ → ℕ → ℕ) (sums : List ℕ) where
  -- a row that is added column by column
  pub part_none : AreTotals columns n f sums → ArePartTotals columns n 0 f sums
  part_none h = record {
    done = λ j within before. absurd (omega arith);
    to_come = λ j within after. h.each j within;
  }

  pub part_all : ArePartTotals columns n columns f sums → AreTotals columns (n + 1) f sums
  part_all h = record { each = λ r within. h.done r within within }
