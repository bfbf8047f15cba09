-- The requirements of the processes of a move, read one after another.
use Rattle.std.proofs.Common.{◌≡◌, ℕ, ◌+◌, ◌-◌, ◌*◌, ◌<◌, ◌≤◌, List, length, ap, ◌∙◌, ◌++◌, arith}
use Rattle.std.proofs.Common.{length-take, slice_index, slice_index_or}
use Rattle.std.proofs.Math.ListN.{take, drop}
use Rattle.std.proofs.lemmas.List.{get_or-append_right, get_or_append_left, get_or-take, get_or-drop}
use Rattle.ra_base.specs.Tables.{cell}
use Rattle.ra_model.specs.declared.raw.Tables.{Tables}
use Rattle.ra_model.specs.Numbers.{resource_count, requirement_of}
use Rattle.ra_model.specs.Limits.{WellFormed}
use Rattle.ra_moves.specs.declared.steps.Step.{Step}
use Rattle.ra_moves.specs.Steps.{step_at, process_in}
use Rattle.ra_world.specs.Required.{AreRequiredRows, ReadTo}

-- the process of a step
pub process_read : (steps : List Step) (j : ℕ) (s : Step) → s ≡ step_at steps j → s.process.0 ≡ process_in steps j
unfolding process_in
process_read steps j s is = ap (λ (x : Step). x.process.0) is

module _ (at n : ℕ) (old : List ℕ) where
  -- a list with other numbers in a part: within the part, before it and after it

  within_part : (part rest : List ℕ) → at ≤ length old → n < length part →
      slice_index_or (take at old ++ (part ++ rest)) (at + n) 0 ≡ slice_index_or part n 0
  within_part part rest long within =
      get_or-append_right (take at old) (part ++ rest) at (at + n) 0 (grind (arith, length-take, long)) (omega arith)
      ∙ ap (λ k. slice_index_or (part ++ rest) k 0) (omega arith) ∙ get_or_append_left part rest 0 n within

  before_part : (rest : List ℕ) → at ≤ length old → n < at →
      slice_index_or (take at old ++ rest) n 0 ≡ slice_index_or old n 0
  before_part rest long before =
      get_or_append_left (take at old) rest 0 n (grind (arith, length-take, long, before))
      ∙ get_or-take at old n 0 before

after_part : (at width n : ℕ) (old part : List ℕ) → at ≤ length old → length part ≡ width → at + width ≤ n →
    slice_index_or (take at old ++ (part ++ drop width (drop at old))) n 0 ≡ slice_index_or old n 0
after_part at width n old part long is after =
    get_or-append_right (take at old) _ at n 0 (grind (arith, length-take, long)) (omega (arith, after))
    ∙ get_or-append_right part _ width (n - at) 0 is (omega (arith, after))
    ∙ get_or-drop width (drop at old) (n - at - width) 0 ∙ get_or-drop at old _ 0
    ∙ ap (λ k. slice_index_or old k 0) (omega (arith, after))

-- a row is read
pub row_read : (i : Tables) (p j width : ℕ) (old part : List ℕ) → width ≡ resource_count i → width ≤ 20 → j < 3 →
    length old ≡ 60 → length part ≡ width → ((r : ℕ) → r < width → slice_index part r ≡ requirement_of i p r) →
    ReadTo i p j (resource_count i) old
    (take (j * 20) old ++ (part ++ drop (j * 20 + width - j * 20) (drop (j * 20) old)))
unfolding cell
row_read i p j width old part width_is few below long is each = grind (arith, within_part, before_part, after_part)

-- the requirements of one more step are read
pub required_next : (i : Tables) (steps : List Step) (j p : ℕ) (old new : List ℕ) → WellFormed i →
    AreRequiredRows i steps j old → p ≡ process_in steps j → ReadTo i p j (resource_count i) old new →
    AreRequiredRows i steps (j + 1) new
required_next i steps j p old new limits before is read = grind arith
