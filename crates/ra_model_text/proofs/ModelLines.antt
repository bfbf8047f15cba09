-- Lines and groups of a model's text, one number and one item after another.
use Rattle.std.proofs.Common.{◌≡◌, ℕ, zero, suc, ◌+◌, List, Option, [], ◌∷◌, ◌++◌, refl, sym, ap, subst, ◌∙◌, add-one, append_assoc}
use Rattle.std.proofs.lemmas.List.{append-nil}
use Rattle.std.specs.Fmt.{decimal}
use Rattle.ra_model.specs.declared.raw.Tables.{Tables}
use Rattle.ra_model.specs.Numbers.{resource_count, machine_count, neighbourhood_of, location_of, capacity_of, safety_of, way_cost_of, spread_of, dependency_count, need_of, service_of, requirement_of, process_cost_of}
use Rattle.ra_model_read.specs.FieldOrder.{end_to_end, row_numbers, machine_numbers, service_numbers, process_numbers}
use Rattle.ra_model_text.specs.Lines.{more_text, line_text}
use Rattle.ra_model_text.specs.ModelTexts.{group_text, machine_text, service_text, process_text}
use Rattle.ra_report.specs.declared.gathered.Gathered.{Gathered}
use Rattle.ra_report.specs.Gathering.{AddsText}
use Rattle.ra_model_text.specs.ModelLines.{spaced, group_to}
use Rattle.ra_report.proofs.GatheringLemmas.{adds_none, adds_more}

-- a row inside a line
more_spaced : (n : ℕ) (f : ℕ → ℕ) (rest : List ℕ) → more_text (row_numbers n f ++ rest) ≡ spaced n f ++ more_text rest
unfolding end_to_end spaced more_text
more_spaced zero f rest = refl
more_spaced (suc n) f rest =
    ap more_text (append_assoc (row_numbers n f) (f n ∷ []) rest)
    ∙ (more_spaced n f (f n ∷ rest) ∙ sym (append_assoc (spaced n f) (32 ∷ decimal (f n)) (more_text rest)))

last_spaced : (n : ℕ) (f : ℕ → ℕ) → more_text (row_numbers n f) ≡ spaced n f ++ (10 ∷ [])
unfolding more_text
last_spaced n f = ap more_text (sym (append-nil (row_numbers n f))) ∙ more_spaced n f []

-- the lines with rows, part after part

pub machine_is : (i : Tables) (m : ℕ) →
    machine_text i m ≡ decimal (neighbourhood_of i m) ++
    ((32 ∷ decimal (location_of i m)) ++
    (spaced (resource_count i) (capacity_of i m) ++
    (spaced (resource_count i) (safety_of i m) ++ (spaced (machine_count i) (way_cost_of i m) ++ (10 ∷ [])))))
unfolding machine_text machine_numbers line_text more_text
machine_is i m =
    let R = resource_count i in
    ap (λ (t : List ℕ). decimal (neighbourhood_of i m) ++ ((32 ∷ decimal (location_of i m)) ++ t))
    (more_spaced R (capacity_of i m) (row_numbers R (safety_of i m) ++ row_numbers (machine_count i) (way_cost_of i m))
    ∙ ap (λ (t : List ℕ). spaced R (capacity_of i m) ++ t)
    (more_spaced R (safety_of i m) (row_numbers (machine_count i) (way_cost_of i m))
    ∙ ap (λ (t : List ℕ). spaced R (safety_of i m) ++ t) (last_spaced (machine_count i) (way_cost_of i m))))

pub service_is : (i : Tables) (s : ℕ) →
    service_text i s ≡ decimal (spread_of i s) ++
    ((32 ∷ decimal (dependency_count i s)) ++ (spaced (dependency_count i s) (need_of i s) ++ (10 ∷ [])))
unfolding service_text service_numbers line_text more_text
service_is i s =
    ap (λ (t : List ℕ). decimal (spread_of i s) ++ ((32 ∷ decimal (dependency_count i s)) ++ t))
    (last_spaced (dependency_count i s) (need_of i s))

pub process_is : (i : Tables) (p : ℕ) →
    process_text i p ≡ decimal (service_of i p) ++
    (spaced (resource_count i) (requirement_of i p) ++ ((32 ∷ decimal (process_cost_of i p)) ++ (10 ∷ [])))
unfolding process_text process_numbers line_text more_text
process_is i p =
    ap (λ (t : List ℕ). decimal (service_of i p) ++ t)
    (more_spaced (resource_count i) (requirement_of i p) (process_cost_of i p ∷ []))

module _ {O : Type 0} (taken : O → Option (List ℕ)) (faults : O → ℕ) where
  -- no number of a row yet, one more, and all
  pub row_none : (f : ℕ → ℕ) (a : Gathered O) → AddsText taken faults a a (spaced 0 f)
  unfolding spaced
  row_none f a = adds_none taken faults a

  pub row_more : (k : ℕ) (f : ℕ → ℕ) (a b c : Gathered O) → AddsText taken faults a b (spaced k f) →
      AddsText taken faults b c (32 ∷ decimal (f k)) → AddsText taken faults a c (spaced (k + 1) f)
  unfolding spaced
  row_more k f a b c so_far next =
      rw (add-one k) (adds_more taken faults a b c (spaced k f) (32 ∷ decimal (f k)) so_far next)

  pub row_all : (k n : ℕ) (f : ℕ → ℕ) (a b : Gathered O) → k ≡ n → AddsText taken faults a b (spaced k f) →
      AddsText taken faults a b (spaced n f)
  row_all k n f a b all adds = rw all at adds

  -- no item of a group yet, one more, and all
  pub group_none : (count n : ℕ) (each : ℕ → List ℕ) (a b : Gathered O) → count ≡ n →
      AddsText taken faults a b (line_text (count ∷ [])) → AddsText taken faults a b (group_to n 0 each)
  unfolding group_to end_to_end
  group_none count n each a b all adds = rw (append-nil, ← all) adds

  pub group_more : (n k : ℕ) (each : ℕ → List ℕ) (a b c : Gathered O) → AddsText taken faults a b (group_to n k each) →
      AddsText taken faults b c (each k) → AddsText taken faults a c (group_to n (k + 1) each)
  unfolding group_to end_to_end
  group_more n k each a b c so_far next =
      subst (λ (t : List ℕ). AddsText taken faults a c t)
      (append_assoc (line_text (n ∷ [])) (end_to_end k each) (each k)
      ∙ ap (λ (j : ℕ). line_text (n ∷ []) ++ end_to_end j each)
      (sym (add-one k)))
      (adds_more taken faults a b c (line_text (n ∷ []) ++ end_to_end k each) (each k) so_far next)

  pub group_all : (n k : ℕ) (each : ℕ → List ℕ) (a b : Gathered O) → k ≡ n →
      AddsText taken faults a b (group_to n k each) → AddsText taken faults a b (group_text n each)
  unfolding group_to group_text
  group_all n k each a b all adds = rw all at adds
