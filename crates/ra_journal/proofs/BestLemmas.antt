-- The first of the least states, when one state more comes.
use Rattle.std.proofs.Common.{◌≡◌, ℕ, zero, suc, ◌<◌, ◌≤◌, Bool, true, false, cond, ltb, List, [], ◌∷◌, ◌++◌, length}
use Rattle.std.proofs.Common.{Option, Some, sym, refl, ap, ◌∙◌, arith}
use Rattle.ra_base.specs.Searches.{is_better, least, least_place}
use Rattle.ra_base.proofs.Least.{least_same, is_better_some}
use Rattle.ra_journal.specs.declared.entries.Entry.{Entry}
use Rattle.ra_journal.specs.Best.{best_place, best_of}
use Rattle.ra_journal.specs.States.{cost_of_state}
use Rattle.ra_journal.specs.Openings.{Opening}
use Rattle.ra_journal.proofs.Places.{SameBelow, same_fewer, same_added, same_state}

-- the least place is one of those searched, and gives the least answer if all answers are there
one_or_less : (better : Bool) (n p : ℕ) → p < suc n → cond better n p < suc n
one_or_less true n p within = omega arith
one_or_less false n p within = within

place_within : (n : ℕ) (f : ℕ → Option ℕ) → least_place (suc n) f < suc n
unfolding least_place
place_within zero f = one_or_less (is_better (f 0) (least 0 f)) 0 0 (omega arith)
place_within (suc n) f = one_or_less (is_better (f (suc n)) (least (suc n) f)) (suc n) (least_place (suc n) f)
    (omega (arith, place_within n f))

chosen_at : (better : Bool) (n p : ℕ) (f : ℕ → ℕ) (best : Option ℕ) → best ≡ Some (f p) →
    cond better (Some (f n)) best ≡ Some (f (cond better n p))
chosen_at true n p f best is = refl
chosen_at false n p f best is = is

least_is : (n : ℕ) (f : ℕ → ℕ) → least (suc n) (λ j. Some (f j)) ≡ Some (f (least_place (suc n) (λ j. Some (f j))))
unfolding least least_place is_better
least_is zero f = refl
least_is (suc n) f = chosen_at (is_better (Some (f (suc n))) (least (suc n) (λ j. Some (f j)))) (suc n)
    (least_place (suc n) (λ j. Some (f j))) f (least (suc n) (λ j. Some (f j))) (least_is n f)

-- one state more: it is the best if it costs less than the best so far
pub best_more : (o : Opening) (h : List Entry) (n : ℕ) →
    best_place o h (suc n) ≡ cond (ltb (cost_of_state o h (suc n)) (cost_of_state o h (best_place o h n)))
    (suc n)
    (best_place o h n)
unfolding best_place least_place
best_more o h n =
    let f : ℕ → Option ℕ = λ j. Some (cost_of_state o h j) in
    ap (λ better. cond better (suc n) (least_place (suc n) f))
    (ap (is_better (Some (cost_of_state o h (suc n)))) (least_is n (cost_of_state o h))
    ∙ is_better_some (cost_of_state o h (suc n)) (cost_of_state o h (least_place (suc n) f)))

module _ (o : Opening) (h : List Entry) where
  pub best_within : (n : ℕ) → best_place o h n ≤ n
  unfolding best_place
  best_within n = omega (arith, place_within n (λ j. Some (cost_of_state o h j)))

  -- at the start
  pub best_start : best_place o h 0 ≡ 0
  best_start = omega (arith, best_within 0)

  -- journals with the same first n entries have the same best place up to n, and the same costs
  pub same_cost : (g : List Entry) (n j : ℕ) → SameBelow n h g → j ≤ n →
      cost_of_state o h j ≡ cost_of_state o g j
  unfolding cost_of_state
  same_cost g n j same few = grind (arith, same_state, same_fewer)

  pub same_best : (g : List Entry) (n : ℕ) → SameBelow n h g → best_place o h n ≡ best_place o g n
  unfolding best_place
  same_best g n same =
      (least_same (suc n) (λ j. Some (cost_of_state o h j)) (λ j. Some (cost_of_state o g j))
      (λ k before. ap (λ x. Some x) (same_cost g n k same (omega arith)))).1

  -- one entry more
  pub best_added : (e : Entry) → best_place o (h ++ e ∷ []) (suc (length h)) ≡
      cond (ltb (cost_of_state o (h ++ e ∷ []) (suc (length h))) (cost_of_state o h (best_of o h)))
      (suc (length h))
      (best_of o h)
  unfolding best_of
  best_added e =
      let g = h ++ e ∷ [] in
      let n = length h in
      let place : best_place o g n ≡ best_place o h n = sym (same_best g n (same_added h e)) in
      let costs : cost_of_state o g (best_place o h n) ≡ cost_of_state o h (best_place o h n) =
      sym (same_cost g n (best_place o h n) (same_added h e) (best_within n)) in
      best_more o g n ∙ ap (λ p. cond (ltb (cost_of_state o g (suc n)) (cost_of_state o g p)) (suc n) p) place
      ∙ ap (λ c. cond (ltb (cost_of_state o g (suc n)) c) (suc n) (best_place o h n)) costs
