-- The words of a worker's next proposals.
use Rattle.std.proofs.Common.{◌≡◌, ℕ, ◌+◌, ◌%◌, ◌<◌, ◌≤◌, List, [], length, slice_set, slice_index_or, refl, ap, ◌∙◌, ⊎_elim, arith}
use Rattle.std.proofs.lemmas.Bool.{cases_lt}
use Rattle.std.proofs.lemmas.List.{get_or-set_other}
use Rattle.std.proofs.lemmas.Grind.{get_or-set_at}
use Rattle.ra_base.specs.declared.causes.Drawing.{Drawing}
use Rattle.ra_draws.specs.declared.budgets.Lots.{Lots}
use Rattle.ra_draws.specs.declared.sources.Lot.{Lot}
use Rattle.ra_draws.specs.Drawn.{Drawn}
use Rattle.ra_draws.specs.Lots.{lot_at, budget_of, words_of}
use Rattle.ra_draws.specs.Words.{proposal_words}
use Rattle.ra_model.specs.Situations.{Situation}
use Rattle.ra_moves.specs.Options.{plan_of}
use Rattle.ra_journal.specs.Entries.{worker_count, budget, words}
use Rattle.ra_worker.specs.Proposals.{AreDrawn}

module _ (l : Lots) (w : ℕ) where
  -- the budget of a worker is its lot's
  pub lot_budget : (lot : Lot) → lot ≡ lot_at l.lots.items w → lot.budget ≡ budget l w
  unfolding budget budget_of
  lot_budget lot is = ap (λ (x : Lot). x.budget) is

  lot_words : (k : ℕ) (lot : Lot) → lot ≡ lot_at l.lots.items w → proposal_words lot.source k ≡ words l w k
  unfolding words words_of
  lot_words k lot is = ap (λ (x : Lot). proposal_words x.source k) is

  -- the words of the first 64 proposals are drawn
  pub drawn_first : (lot : Lot) (before after : Drawn) (ring : List (List ℕ)) → w < worker_count l →
      lot ≡ lot_at l.lots.items w → before.lot ≡ lot → after.lot ≡ before.lot → (63 < lot.budget → after.made ≡ 64) →
      ((n : ℕ) → n < 64 → n < lot.budget → slice_index_or ring n [] ≡ proposal_words lot.source n) →
      AreDrawn l w after 0 ring
  drawn_first lot before after ring exists lot_is before_lot after_lot made drawn =
      let same = lot_budget lot lot_is in
      record {
        worker = exists;
        within = omega arith;
        lot = after_lot ∙ before_lot ∙ lot_is;
        made = λ left. made (omega (arith, left, same));
        words = λ n from near left.
            ap (λ (j : ℕ). slice_index_or ring j []) {x = n % 64} {y = n} (omega (arith, near))
            ∙ drawn n near (omega (arith, left, same)) ∙ lot_words n lot lot_is;
      }

  -- and then those of the one after 64, in the place of the first
  pub drawn_more : (k : ℕ) (lot : Lot) (before after : Drawn) (ring : List (List ℕ)) (x : List ℕ) →
      AreDrawn l w before k ring → k < budget l w → length ring ≡ 64 → lot ≡ lot_at l.lots.items w →
      after.lot ≡ before.lot → (k + 64 < lot.budget → after.made ≡ k + 64 + 1) →
      (k + 64 < lot.budget → x ≡ proposal_words lot.source (k + 64)) →
      AreDrawn l w after (k + 1) (slice_set ring (k % 64) x)
  drawn_more k lot before after ring x are some long lot_is after_lot made drawn =
      let same = lot_budget lot lot_is in
      let later : (n : ℕ) → k + 1 ≤ n → n < k + 65 → n < budget l w →
      slice_index_or (slice_set ring (k % 64) x) (n % 64) [] ≡ words l w n =
      λ n from near left.
      ⊎_elim
      (λ (old : n < k + 64).
      get_or-set_other ring (k % 64) (n % 64) x [] (λ at. omega (arith, at, from, old))
      ∙ are.words n (omega (arith, from)) old left)
      (λ (new : k + 64 ≤ n).
      let is : k + 64 ≡ n = omega (arith, new, near) in
      get_or-set_at ring (k % 64) (n % 64) x [] (omega (arith, is)) (omega (arith, long))
      ∙ drawn (omega (arith, is, left, same))
      ∙ ap (λ (j : ℕ). proposal_words lot.source j) is
      ∙ lot_words n lot lot_is)
      (cases_lt n (k + 64))
      in
      record {
        worker = are.worker;
        within = omega (arith, some);
        lot = after_lot ∙ are.lot;
        made = λ left. omega (arith, made (omega (arith, left, same)));
        words = λ n from near left. later n from (omega (arith, near)) left;
      }

-- the words of the proposals so far are in a list, and then those of one more
pub ring_more : (lot : Lot) (m : ℕ) (ring : List (List ℕ)) (x : List ℕ) → m < length ring →
    ((n : ℕ) → n < m → n < lot.budget → slice_index_or ring n [] ≡ proposal_words lot.source n) →
    (m < lot.budget → x ≡ proposal_words lot.source m) →
    (n : ℕ) → n < m + 1 → n < lot.budget → slice_index_or (slice_set ring m x) n [] ≡ proposal_words lot.source n
ring_more lot m ring x room drawn more n near left =
    ⊎_elim
    (λ (old : n < m). get_or-set_other ring m n x [] (λ at. omega (arith, at, old)) ∙ drawn n old left)
    (λ (new : m ≤ n).
    let is : m ≡ n = omega (arith, new, near) in
    get_or-set_at ring m n x [] (omega (arith, is)) room
    ∙ more (omega (arith, is, left))
    ∙ ap (λ (j : ℕ). proposal_words lot.source j) is)
    (cases_lt n m)

-- what is planned from the same words
pub plan_alike : (st : Situation) (x y : List ℕ) (d e : Drawing) (r s : ℕ) → x ≡ y → d ≡ e → r ≡ s →
    plan_of st x d r ≡ plan_of st y e s
plan_alike st x y d e r s x_is d_is r_is = rw (x_is, d_is, r_is) refl
