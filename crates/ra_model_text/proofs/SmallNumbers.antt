-- Each text of an item tells the item's numbers, all of which are small.
use Rattle.std.proofs.Common.{ℕ, zero, suc, ◌+◌, ◌^◌, ◌<◌, Bool, true, false, List, [], ◌∷◌, ◌++◌, arith}
use Rattle.std.proofs.lemmas.List.Elements.{All-nil, All-cons, All-append, All-push}
use Rattle.ra_base.specs.Sums.{one_if}
use Rattle.ra_model.specs.declared.raw.Tables.{Tables}
use Rattle.ra_model.specs.Limits as limits
use Rattle.ra_model.specs.Numbers.{resource_count, machine_count, service_count, process_count, balance_count}
use Rattle.ra_model.specs.Numbers.{transient_at, capacity_of, safety_of, way_cost_of, dependency_start, dependency_end}
use Rattle.ra_model.specs.Numbers.{dependency_count, need_of, requirement_of, first_of, second_of, target_of}
use Rattle.ra_model.specs.Numbers.{balance_weight_of, process_weight_of, service_weight_of, machine_weight_of}
use Rattle.ra_model_read.specs.FieldOrder.{end_to_end, row_numbers, resource_numbers, machine_numbers, service_numbers}
use Rattle.ra_model_read.specs.FieldOrder.{process_numbers, balance_numbers, all_numbers_of}
use Rattle.ra_model_text.specs.Lines.{line_text}
use Rattle.ra_model_text.proofs.LineTexts.{IsSmall}
use Rattle.ra_model_text.proofs.LineTokens.{Small}
use Rattle.ra_model_text.specs.ModelTexts.{resource_text, machine_text, service_text, process_text, balance_text}
use Rattle.ra_model_text.specs.ModelTexts.{weights_text, model_text}
use Rattle.ra_model_text.proofs.Telling.{Tells, tells_line, tells_append, tells_group}

-- numbers that are all small
record AreSmall (ns : List ℕ) : Type 0 where
  pub all : Small ns

none : AreSmall []
none = record { all = All-nil IsSmall }

more : (n : ℕ) (ns : List ℕ) → n < 2 ^ 32 → AreSmall ns → AreSmall (n ∷ ns)
more n ns small rest = record { all = All-cons IsSmall n ns small rest.all }

row_small : (n : ℕ) (f : ℕ → ℕ) → ((k : ℕ) → k < n → f k < 2 ^ 32) → AreSmall (row_numbers n f)
unfolding end_to_end
row_small zero f each = none
row_small (suc n) f each = record {
  all = All-push IsSmall (row_numbers n f) (f n) (row_small n f (λ k within. each k (omega arith))).all
      (each n (omega arith));
}

both : (xs ys : List ℕ) → AreSmall xs → AreSmall ys → AreSmall (xs ++ ys)
both xs ys first then = record { all = All-append IsSmall xs ys first.all then.all }

line : (n : ℕ) (ns : List ℕ) → AreSmall (n ∷ ns) → Tells (line_text (n ∷ ns)) (n ∷ ns)
line n ns small = tells_line n ns small.all

flag_small : (b : Bool) → one_if b < 2 ^ 32
flag_small true = omega arith
flag_small false = omega arith

module _ (i : Tables) (fits : limits.WellFormed i) (small : limits.Small i) where
  resource_told : (r : ℕ) → Tells (resource_text i r) (resource_numbers i r)
  unfolding resource_text resource_numbers
  resource_told r = line _ _ (more _ _ (flag_small (transient_at i r)) (more _ _ (small.load_weights r) none))

  machine_told : (m : ℕ) → Tells (machine_text i m) (machine_numbers i m)
  unfolding machine_text machine_numbers
  machine_told m = line _ _
      (more _ _ (small.neighbourhoods m) (more _ _ (small.locations m)
      (both (row_numbers (resource_count i) (capacity_of i m)) _
      (row_small (resource_count i) (capacity_of i m) (λ r within. small.capacities m r))
      (both (row_numbers (resource_count i) (safety_of i m)) _
      (row_small (resource_count i) (safety_of i m) (λ r within. small.safeties m r))
      (row_small (machine_count i) (way_cost_of i m) (λ b within. small.way_costs m b))))))

  count_small : (s : ℕ) → dependency_count i s < 2 ^ 32
  unfolding dependency_count
  count_small s = let end : dependency_end i s < 2 ^ 32 = small.dependency_ends s in omega (arith, end)

  need_small : (s k : ℕ) → s < service_count i → k < dependency_count i s → need_of i s k < 2 ^ 32
  unfolding need_of dependency_count
  need_small s k s_in within =
      let behind : dependency_start i s + k < dependency_end i s = omega (arith, within) in
      omega (
        arith,
        fits.needs (dependency_start i s + k) (omega (arith, behind, fits.within s s_in)),
        fits.few_services,
      )

  service_told : (s : ℕ) → s < service_count i → Tells (service_text i s) (service_numbers i s)
  unfolding service_text service_numbers
  service_told s s_in = line _ _
      (more _ _ (small.spreads s) (more _ _ (count_small s)
      (row_small (dependency_count i s) (need_of i s) (λ k within. need_small s k s_in within))))

  process_told : (p : ℕ) → p < process_count i → Tells (process_text i p) (process_numbers i p)
  unfolding process_text process_numbers
  process_told p p_in = line _ _
      (more _ _ (omega (arith, fits.services p p_in, fits.few_services))
      (both (row_numbers (resource_count i) (requirement_of i p)) _
      (row_small (resource_count i) (requirement_of i p) (λ r within. small.requirements p r))
      (more _ _ (small.process_costs p) none)))

  balance_told : (b : ℕ) → b < balance_count i → Tells (balance_text i b) (balance_numbers i b)
  unfolding balance_text balance_numbers
  balance_told b b_in =
      tells_append _ _ (first_of i b ∷ second_of i b ∷ target_of i b ∷ []) (balance_weight_of i b ∷ [])
      (line _ _
      (more _ _ (omega (arith, fits.firsts b b_in, fits.few_resources))
      (more _ _ (omega (arith, fits.seconds b b_in, fits.few_resources))
      (more _ _ (small.targets b) none))))
      (line _ _ (more _ _ (small.balance_weights b) none))

  weights_told : Tells (weights_text i) (process_weight_of i ∷ service_weight_of i ∷ machine_weight_of i ∷ [])
  unfolding weights_text
  weights_told =
      line _ _ (more _ _ small.process_weight (more _ _ small.service_weight (more _ _ small.machine_weight none)))

  pub model_told : Tells (model_text i) (all_numbers_of i)
  unfolding model_text all_numbers_of
  model_told =
      tells_append _ _ _ _
      (tells_group (resource_count i) (resource_text i) (resource_numbers i) (omega (arith, fits.few_resources))
      (λ r within. resource_told r))
      (tells_append _ _ _ _
      (tells_group (machine_count i) (machine_text i) (machine_numbers i) (omega (arith, fits.few_machines))
      (λ m within. machine_told m))
      (tells_append _ _ _ _
      (tells_group (service_count i) (service_text i) (service_numbers i) (omega (arith, fits.few_services))
      service_told)
      (tells_append _ _ _ _
      (tells_group (process_count i) (process_text i) (process_numbers i) (omega (arith, fits.few_processes))
      process_told)
      (tells_append _ _ _ _
      (tells_group (balance_count i) (balance_text i) (balance_numbers i) (omega (arith, fits.few_balances))
      balance_told)
      weights_told))))
