-- The moved counts of a move are the same in two assignments that are alike for it.
use Rattle.std.proofs.Common.{◌≡◌, ℕ, zero, suc, ◌≤◌, List, [], ◌∷◌, ◌++◌, length, refl, ap, ◌∙◌, arith}
use Rattle.std.proofs.lemmas.Bool.{cond_both}
use Rattle.ra_base.specs.declared.costs.MovedCount.{MovedCount}
use Rattle.ra_base.specs.declared.ids.Machine.{Machine}
use Rattle.ra_model.specs.declared.raw.Tables.{Tables}
use Rattle.ra_model.specs.Services.{moved_of}
use Rattle.ra_model.specs.Situations.{Situation, situation}
use Rattle.ra_moves.specs.declared.steps.Step.{Step}
use Rattle.ra_moves.specs.Replacing.{applied}
use Rattle.ra_moves.specs.Moving.{IsMove}
use Rattle.ra_moves.specs.Alike.{SameOf, HeldAlike}
use Rattle.ra_moves.specs.Weighing.{moved_count, services_moved, count_at, changed_count}
use Rattle.ra_moves.proofs.EndLemmas.{moved_guarded, service_moved}
use Rattle.ra_moves.proofs.AlikeLemmas.{same_of_after, moved_alike}

-- one more service
count_push : (st su : Situation) (steps : List Step) (xs : List ℕ) (s : ℕ) →
    ((k : ℕ) → count_at st steps xs k ≡ count_at su steps xs k) → moved_count st steps s ≡ moved_count su steps s →
    (k : ℕ) → count_at st steps (xs ++ s ∷ []) k ≡ count_at su steps (xs ++ s ∷ []) k
unfolding count_at
count_push st su steps [] s each last zero = rw last
count_push st su steps [] s each last (suc k) = refl
count_push st su steps (x ∷ xs) s each last zero = each 0
count_push st su steps (x ∷ xs) s each last (suc k) = count_push st su steps xs s (λ j. each (suc j)) last k

module _ (i : Tables) (a0 a b : List Machine) (steps : List Step) where
  pub moved_count_same : (s : ℕ) → IsMove i a steps → IsMove i b steps → SameOf i a b s →
      moved_count (situation i a0 a) steps s ≡ moved_count (situation i a0 b) steps s
  unfolding moved_count
  moved_count_same s one other same =
      ap (λ n. let c : MovedCount = record {
        service = record { 0 = s };
        before = n;
        after = moved_of i a0 (applied a steps) s;
      } in c) (moved_alike i a0 a b s same)
      ∙ ap (λ n. let c : MovedCount = record {
        service = record { 0 = s };
        before = moved_of i a0 b s;
        after = n;
      } in c) (moved_alike i a0 _ _ s (same_of_after i a b steps s one other same))

  counts_so_far : (n : ℕ) → n ≤ length steps → IsMove i a steps → IsMove i b steps → HeldAlike i steps a b → (k : ℕ) →
      count_at (situation i a0 a) steps (services_moved i steps n) k ≡ count_at (situation i a0 b) steps
      (services_moved i steps n) k
  unfolding count_at services_moved
  counts_so_far zero few one other alike = λ k. refl
  counts_so_far (suc n) few one other alike =
      let before = counts_so_far n (omega arith) one other alike in
      let here = moved_count_same _ one other
      (alike.services _
      (moved_guarded i steps _ (service_moved i steps n (omega arith)))) in
      cond_both _ _
      _ (λ xs. (k : ℕ) → count_at (situation i a0 a) steps xs k ≡ count_at (situation i a0 b)
      steps xs k)
      (λ new. count_push _ _ steps _ _
      before here)
      (λ again. before)

  pub counts_same : (k : ℕ) → IsMove i a steps → IsMove i b steps → HeldAlike i steps a b →
      changed_count (situation i a0 a) steps k ≡ changed_count (situation i a0 b) steps k
  unfolding changed_count
  counts_same k one other alike =
      counts_so_far (length steps) (omega arith) one other alike k
