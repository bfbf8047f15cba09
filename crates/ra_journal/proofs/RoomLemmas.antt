-- A journal whose entries are numbered has no more entries than the budgets allow, and fewer while a worker has some
-- left.
use Rattle.std.proofs.Common.{◌≡◌, ℕ, zero, suc, ◌+◌, ◌<◌, ◌≤◌, Bool, true, false, eqb, List, [], ◌∷◌, length, sum_by}
use Rattle.std.proofs.Common.{sym, refl, ap, ◌∙◌, subst, arith}
use Rattle.std.proofs.lemmas.Bool.{eqb-true}
use Rattle.std.proofs.lemmas.List.Sums.{sum_by-cons}
use Rattle.ra_base.specs.Sums.{total, one_if}
use Rattle.ra_base.proofs.Sums.{total_none, total_front, total_suc, total_le, total_lt, total_grouped, total_constant}
use Rattle.ra_base.proofs.Sums.{total_part}
use Rattle.ra_draws.specs.declared.sources.Lot.{Lot}
use Rattle.ra_draws.specs.declared.budgets.Lots.{Lots}
use Rattle.ra_draws.specs.Lots.{lot_at, budget_of}
use Rattle.ra_journal.specs.declared.entries.Entry.{Entry}
use Rattle.ra_journal.specs.Entries.{entry_at, entries_of, worker_count, budget, proposal_count}
use Rattle.ra_journal.specs.Legal.{IsNumbered}

-- the budgets one by one are those of the list
budgets_are : (lots : List Lot) → total (length lots) (budget_of lots) ≡ sum_by (λ (lot : Lot). lot.budget) lots
unfolding budget_of lot_at total
budgets_are [] = refl
budgets_are (lot ∷ rest) = total_front (length rest) (budget_of (lot ∷ rest))
    ∙ ap (λ n. lot.budget + n) (budgets_are rest) ∙ sym (sum_by-cons (λ (l : Lot). l.budget) lot rest)

-- the first n entries are numbered
pub record AreNumbered (l : Lots) (h : List Entry) (n : ℕ) : Type 0 where
  pub each : (j : ℕ) → j < n → IsNumbered l h j (entry_at h j)

-- no worker has more entries than its budget
within_more : (own : Bool) (made most : ℕ) → made ≤ most → (own ≡ true → made < most) → made + one_if own ≤ most
within_more true made most few below = omega (arith, below refl)
within_more false made most few below = omega arith

module _ (l : Lots) where
  pub proposals_are : proposal_count l ≡ sum_by (λ lot. lot.budget) l.lots.items
  unfolding proposal_count worker_count budget
  proposals_are = budgets_are l.lots.items

  pub entries_within : (h : List Entry) (n w : ℕ) → AreNumbered l h n → entries_of h n w ≤ budget l w
  unfolding entries_of
  entries_within h zero w numbered = omega (arith, total_none (λ j. one_if (eqb (entry_at h j).worker w)))
  entries_within h (suc n) w numbered =
      let e = entry_at h n in
      let is = numbered.each n (omega arith) in
      let own : eqb e.worker w ≡ true → entries_of h n w < budget l w =
      λ same. subst (λ v. entries_of h n v < budget l v) (eqb-true e.worker w same) (omega (arith, is.number, is.budget)) in
      let more = within_more (eqb e.worker w) (entries_of h n w) (budget l w)
      (entries_within h n w (record { each = λ j before. numbered.each j (omega arith) })) own in
      omega (arith, total_suc n (λ j. one_if (eqb (entry_at h j).worker w)), more)

  module _ (h : List Entry) (n : ℕ) where
    -- all entries are entries of the workers
    pub entries_together : AreNumbered l h n →
        total (worker_count l) (entries_of h n) ≡ n
    unfolding entries_of
    entries_together numbered = total_grouped (worker_count l) n (λ j. (entry_at h j).worker) (λ j. 1)
        (λ j before. (numbered.each j before).worker) ∙ omega (arith, total_constant n 1)

    pub entries_few : AreNumbered l h n → n ≤ proposal_count l
    unfolding proposal_count
    entries_few numbered = grind (arith, entries_together, total_le, entries_within)

    pub entries_fewer : (w : ℕ) → AreNumbered l h n → w < worker_count l →
        entries_of h n w < budget l w → n < proposal_count l
    unfolding proposal_count
    entries_fewer w numbered exists left =
        omega (
          arith,
          entries_together numbered,
          total_lt (worker_count l) w (entries_of h n) (budget l) exists left
              (λ v there. entries_within h n v numbered),
        )

  -- budgets together are few
  pub proposals_few : proposal_count l ≤ 1000000
  proposals_few = omega (arith, proposals_are, l.fitting.together)

  pub budgets_few : (w : ℕ) → w < worker_count l → total w (budget l) + budget l w ≤ 1000000
  unfolding proposal_count
  budgets_few w exists = omega (arith, proposals_few, total_part (worker_count l) w (budget l) exists)
