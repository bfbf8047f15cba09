-- One lot or two that a test has made are the lots of a run.
use Rattle.std.proofs.Common.{◌≡◌, ℕ, zero, suc, ◌+◌, ◌<◌, ◌≤◌, List, [], ◌∷◌, ◌++◌, ◌∙◌, ap, arith}
use Rattle.ra_draws.specs.declared.sources.Lot.{Lot}
use Rattle.ra_draws.specs.Lots.{IsLots, IsFitting, lot_at}

each_of_one : (a : Lot) → IsFitting a → (w : ℕ) → w < 1 → IsFitting (lot_at (a ∷ []) w)
unfolding lot_at
each_of_one a fits zero within = fits
each_of_one a fits (suc w) within = absurd (omega arith)

pub one_lot : (a : Lot) (none lots : List Lot) → none ≡ [] → lots ≡ none ++ a ∷ [] → IsFitting a → a.budget ≤ 1000000 →
    IsLots lots
one_lot a none lots empty one fits small =
    let fine : IsLots (a ∷ []) = record {
      some = omega arith;
      few = omega arith;
      together = omega arith;
      each = λ w within. each_of_one a fits w within;
    } in
    let all : lots ≡ a ∷ [] = one ∙ ap (λ (l : List Lot). l ++ a ∷ []) empty in
    rw all fine

each_of_two : (a b : Lot) → IsFitting a → IsFitting b → (w : ℕ) → w < 2 → IsFitting (lot_at (a ∷ b ∷ []) w)
unfolding lot_at
each_of_two a b a_fits b_fits zero within = a_fits
each_of_two a b a_fits b_fits (suc zero) within = b_fits
each_of_two a b a_fits b_fits (suc (suc w)) within = absurd (omega arith)

pub two_lots : (a b : Lot) (none first lots : List Lot) → none ≡ [] → first ≡ none ++ a ∷ [] → lots ≡ first ++ b ∷ [] →
    IsFitting a → IsFitting b → a.budget + b.budget ≤ 1000000 → IsLots lots
two_lots a b none first lots empty one two a_fits b_fits small =
    let fine : IsLots (a ∷ b ∷ []) = record {
      some = omega arith;
      few = omega arith;
      together = omega arith;
      each = λ w within. each_of_two a b a_fits b_fits w within;
    } in
    let all : lots ≡ a ∷ b ∷ [] = two
    ∙ ap (λ (l : List Lot). l ++ b ∷ []) (one ∙ ap (λ (l : List Lot). l ++ a ∷ []) empty) in
    rw all fine
