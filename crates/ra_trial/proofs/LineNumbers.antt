-- The numbers in the lines of a trial's model file are the numbers of its instance, in field order.
use Rattle.std.proofs.Common.{inl, inr, ◌≡◌, ◌≢◌, ℕ, zero, suc, ◌%◌, ◌<◌, eqb, List, [], ◌∷◌, ◌++◌, refl, sym, ap}
use Rattle.std.proofs.Common.{ap₂, ◌∙◌}
use Rattle.std.proofs.Common.{arith, append_assoc, eq-eqb, ne_eqb}
use Rattle.std.proofs.lemmas.Bool.{cases_eq, cond-true, cond-false}
use Rattle.std.proofs.lemmas.List.{append-nil}
use Rattle.std.specs.List.{concat}
use Rattle.ra_base.specs.Sums.{one_if}
use Rattle.ra_model.specs.declared.raw.Tables.{Tables}
use Rattle.ra_model.specs.Numbers as model
use Rattle.ra_model_read.specs.FieldOrder.{end_to_end, row_numbers, with_count, resource_numbers, machine_numbers}
use Rattle.ra_model_read.specs.FieldOrder.{service_numbers}
use Rattle.ra_model_read.specs.FieldOrder.{process_numbers, balance_numbers, all_numbers_of}
use Rattle.ra_trial.specs.InstanceNumbers.{HasNumbers}
use Rattle.ra_trial.specs.Lines.{listed}
use Rattle.ra_trial.specs.Numbers.{trial_transient_of, trial_requirement_of, trial_capacity_of, trial_safety_of}
use Rattle.ra_trial.specs.Numbers.{trial_way_cost_of}
use Rattle.ra_trial.specs.Trials.{resource_line, machine_front, machine_line, service_line, process_line}
use Rattle.ra_trial.specs.Trials.{resource_lines, machine_lines, service_lines, process_lines, last_lines}

-- all lines of the model file
unfoldable pub all_lines : (ℕ → ℕ) → List (List ℕ)
all_lines g = resource_lines ++ (machine_lines g ++ (service_lines g ++ (process_lines g ++ last_lines)))

concat_append : (xs ys : List (List ℕ)) → concat (xs ++ ys) ≡ concat xs ++ concat ys
concat_append [] ys = refl
concat_append (x ∷ xs) ys = rw (concat_append xs ys) (sym (append_assoc x _ _))

-- one after another
row_same : (n : ℕ) (f h : ℕ → ℕ) → ((k : ℕ) → k < n → f k ≡ h k) → listed n f ≡ row_numbers n h
unfolding listed end_to_end
row_same zero f h same = refl
row_same (suc n) f h same = rw (row_same n f h (λ k within. same k (omega arith)), same n (omega arith)) refl

lines_same : (n : ℕ) (f h : ℕ → List ℕ) → ((k : ℕ) → k < n → f k ≡ h k) → concat (listed n f) ≡ end_to_end n h
unfolding listed end_to_end
lines_same zero f h same = refl
lines_same (suc n) f h same = rw (
  concat_append (listed n f) (f n ∷ []),
  lines_same n f h (λ k within. same k (omega arith)),
  same n (omega arith),
  append-nil (h n),
) refl

group_same : {n count : ℕ} (f h : ℕ → List ℕ) → count ≡ n → ((k : ℕ) → k < n → f k ≡ h k) →
    concat ((n ∷ []) ∷ listed n f) ≡ with_count count h
group_same {n} f h many same = grind (arith, lines_same)

module _ (g : ℕ → ℕ) (i : Tables) (has : HasNumbers g i) where
  resource_same : (r : ℕ) → r < 4 → resource_line r ≡ resource_numbers i r
  unfolding resource_line resource_numbers trial_transient_of
  resource_same r r_in = cc (has.transient r r_in, has.load_weight r r_in)

  machine_same : (m : ℕ) → m < 100 → machine_line g m ≡ machine_numbers i m
  unfolding machine_line machine_front machine_numbers
  machine_same m m_in = cc (
    has.neighbourhood m m_in,
    has.location m m_in,
    has.resources,
    has.machines,
    append_assoc (listed 4 (trial_capacity_of g m)) (listed 4 (trial_safety_of g m))
        (listed 100 (trial_way_cost_of m)),
    row_same 4 _ (model.capacity_of i m) (λ r r_in. sym (has.capacity m r m_in r_in)),
    row_same 4 _ (model.safety_of i m) (λ r r_in. sym (has.safety m r m_in r_in)),
    row_same 100 _ (model.way_cost_of i m) (λ b b_in. sym (has.move_cost m b m_in b_in)),
  )

  one_row : (n : ℕ) (h : ℕ → ℕ) → n ≡ 1 → n ∷ row_numbers n h ≡ 1 ∷ h 0 ∷ []
  unfolding end_to_end
  one_row n h one = rw one refl

  no_row : (n : ℕ) (h : ℕ → ℕ) → n ≡ 0 → n ∷ row_numbers n h ≡ 0 ∷ []
  unfolding end_to_end
  no_row n h none = rw none refl

  service_same : (s : ℕ) → s < 250 → service_line g s ≡ service_numbers i s
  unfolding service_line service_numbers
  service_same s s_in = grind (arith, eq-eqb, one_row, no_row)

  process_same : (p : ℕ) → p < 1000 → process_line g p ≡ process_numbers i p
  unfolding process_line process_numbers
  process_same p p_in = grind (arith, row_same)

  balance_same : 0 ∷ 1 ∷ 2 ∷ 10 ∷ [] ≡ balance_numbers i 0
  unfolding balance_numbers
  balance_same = cc (has.first, has.second, has.target, has.balance_weight)

  one_group : (n : ℕ) (h : ℕ → List ℕ) → n ≡ 1 → with_count n h ≡ 1 ∷ h 0
  unfolding end_to_end
  one_group n h one = rw one refl

  weights_same : 1 ∷ 10 ∷ 100 ∷ [] ≡ model.process_weight_of i ∷ model.service_weight_of i ∷ model.machine_weight_of i ∷
      []
  weights_same = cc (has.process_weight, has.service_weight, has.machine_weight)

  last_same : concat last_lines ≡ with_count (model.balance_count i) (balance_numbers i) ++
      (model.process_weight_of i ∷ model.service_weight_of i ∷ model.machine_weight_of i ∷ [])
  unfolding last_lines
  last_same =
      ap₂ (λ b w. (1 ∷ b) ++ w) balance_same weights_same
      ∙ ap (λ b. b ++ (model.process_weight_of i ∷ model.service_weight_of i ∷ model.machine_weight_of i ∷ []))
      (sym (one_group (model.balance_count i) _ has.balances))

  pub numbers_same : concat (all_lines g) ≡ all_numbers_of i
  unfolding all_lines all_numbers_of resource_lines machine_lines service_lines process_lines
  numbers_same =
      concat_append resource_lines _
      ∙ ap₂ (λ a b. a ++ b) (group_same resource_line _ has.resources resource_same)
      (concat_append (machine_lines g) _
      ∙ ap₂ (λ a b. a ++ b) (group_same _ _ has.machines machine_same)
      (concat_append (service_lines g) _
      ∙ ap₂ (λ a b. a ++ b) (group_same _ _ has.services service_same)
      (concat_append (process_lines g) last_lines
      ∙ ap₂ (λ a b. a ++ b) (group_same _ _ has.processes process_same)
      last_same)))
