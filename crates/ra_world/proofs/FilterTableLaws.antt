-- The table of filter rows: what one machine has in it, and what stays where one process goes to another machine.
use Rattle.std.proofs.Common.{◌≡◌, ◌≢◌, ℕ, ◌+◌, ◌-◌, ◌*◌, ◌%◌, ◌<◌, ◌≤◌, inl, inr, List}
use Rattle.std.proofs.Common.{length, set, slice_index, ap, ◌∙◌, ⊎_elim, arith}
use Rattle.std.proofs.Math.ListN.{length-set}
use Rattle.std.proofs.Math.Nat.{mod-add-div', mul-le-mul_right, mod-eq_of_lt, mod-lt}
use Rattle.std.proofs.lemmas.Bool.{cases_eq, cases_lt}
use Rattle.ra_base.specs.Tables.{cell}
use Rattle.ra_base.specs.declared.ids.Machine.{Machine}
use Rattle.ra_base.proofs.Tables.{place_within, cell_write_same, cell_write_other}
use Rattle.ra_model.specs.declared.raw.BalanceRow.{BalanceRow}
use Rattle.ra_model.specs.declared.raw.Tables.{Tables}
use Rattle.ra_model.specs.Numbers.{resource_count, machine_count, process_count, balance_count, balance_row}
use Rattle.ra_model.specs.Numbers.{capacity_of, first_of, second_of, target_of}
use Rattle.ra_model.specs.Numbers.{balance_weight_of}
use Rattle.ra_model.specs.Limits.{WellFormed}
use Rattle.ra_model.specs.Assignments.{IsAssignment, machine_at}
use Rattle.ra_model.specs.Costs.{available}
use Rattle.ra_model.specs.MachineCosts.{row_left}
use Rattle.ra_rows.specs.Rows.{IsUsageRow}
use Rattle.ra_rows.specs.FilterRows.{load_row, first_row, second_row}
use Rattle.ra_world.specs.FilterTables.{filter_row_count, filter_width, filter_row, capped_row, AreAlikeElsewhere}
use Rattle.ra_world.specs.FilterTables.{IsRowTable, IsColumnSet, ArePlacesSet}
use Rattle.ra_world.proofs.RenewalLaws.{use_kept}

-- two places of one machine are at least as far apart as there are machines
pub far_apart : (m n place k : ℕ) → place % n ≡ m → place < k → k < place + n → k % n ≢ m
far_apart m n place k at from to same = grind (arith, mod-add-div', mul-le-mul_right)

module _ (i : Tables) (m : ℕ) where
  -- nothing is set yet
  pub no_places : (j end number : ℕ) (table : List ℕ) → m < machine_count i → end ≡ m →
      ArePlacesSet i m j end number table table
  no_places j end number table within is = grind (arith, mod-eq_of_lt)

  -- one place more
  pub next_place : (j place number : ℕ) (old mid : List ℕ) → m < machine_count i → j < filter_row_count i →
      place < filter_width i → place % machine_count i ≡ m → length mid ≡ filter_row_count i * filter_width i →
      ArePlacesSet i m j place number old mid →
      ArePlacesSet i m j (place + machine_count i) number old (set mid (j * filter_width i + place) number)
  next_place j place number old mid machine row within at grid so_far = record {
    many = length-set mid (j * filter_width i + place) number ∙ so_far.many;
    here = λ k before width is. elim (cases_eq k place) [
      | inl here ↦ ap (cell (filter_width i) (set mid (j * filter_width i + place) number) j) here
          ∙ cell_write_same (filter_width i) mid j place number
          (omega (arith, grid, place_within j place (filter_row_count i) (filter_width i) row within))
      | inr other ↦ cell_write_other _ mid j place number j k within width (inr other)
          ∙ ⊎_elim
          (λ (less : k < place). so_far.here k less width is)
          (λ (more : place ≤ k). absurd (far_apart m _ place k at (omega arith) before is))
          (cases_lt k place)
    ];
    others = λ l k width apart. elim apart [
      | inl row_apart ↦ cell_write_other _ mid j place number l k within width (inl row_apart)
          ∙ so_far.others l k width (inl row_apart)
      | inr rest ↦ elim rest [
        | inl machine_apart ↦ cell_write_other _ mid j place number l k within
            width (inr (λ e. machine_apart (ap (λ x. x % machine_count i) e ∙ at)))
            ∙ so_far.others l k width (inr (inl machine_apart))
        | inr past ↦ cell_write_other _ mid j place number l k within width
            (inr (λ e. omega arith)) ∙ so_far.others l k width (inr (inr (omega arith)))
      ]
    ];
  }

  -- all places
  pub all_places : (j end number : ℕ) (old new : List ℕ) → filter_width i ≤ end →
      ArePlacesSet i m j end number old new → ArePlacesSet i m j (filter_width i) number old new
  all_places j end number old new past are = grind arith

  -- no row is set yet
  pub no_rows : (n : ℕ) (number : ℕ → ℕ) (table : List ℕ) → n ≡ 0 → IsColumnSet i m n number table table
  no_rows n number table none = grind arith

  -- one row more
  pub next_row : (n x : ℕ) (number : ℕ → ℕ) (old mid new : List ℕ) → IsColumnSet i m n number old mid →
      ArePlacesSet i m n (filter_width i) x mid new → x ≡ number n → IsColumnSet i m (n + 1) number old new
  next_row n x number old mid new so_far row is = grind arith

-- the columns of the first n machines
pub record IsRowTableTo (i : Tables) (a : List Machine) (n : ℕ) (table : List ℕ) : Type 0 where
  pub many : length table ≡ filter_row_count i * filter_width i
  pub each : (j k : ℕ) → j < filter_row_count i → k < filter_width i → k % machine_count i < n →
      cell (filter_width i) table j k ≡ capped_row i a (k % machine_count i) j

module _ (i : Tables) (a : List Machine) where
  module _ {m : ℕ} where
    -- what is left of a resource, from the row of use
    left_is : (r : ℕ) {row : List ℕ} → IsUsageRow i a m row → r < resource_count i →
        row_left i m (slice_index row) r ≡ available i a m r
    unfolding row_left available
    left_is r is within = ap (λ x. capacity_of i m r - x) (is.each r within)

    module _ (b : ℕ) {row : List ℕ} {objective : BalanceRow} {first second target : ℕ} (limits : WellFormed i)
        (within : b < balance_count i) (usage : IsUsageRow i a m row) (is : objective ≡ balance_row i b)
        (first_is : first ≡ row_left i m (slice_index row) objective.first.0)
        (second_is : second ≡ row_left i m (slice_index row) objective.second.0)
        (target_is : target ≡ objective.target) where
      pub first_from : objective.weight * (target * first - second) ≡ first_row i a m b
      unfolding first_row first_of second_of target_of balance_weight_of
      first_from = grind (arith, left_is)

      pub second_from : objective.weight * (second - target * first) ≡ second_row i a m b
      unfolding second_row first_of second_of target_of balance_weight_of
      second_from = grind (arith, left_is)

  -- the rows of a machine that process p neither leaves nor enters
  pub filters_stay : (p : ℕ) (to : Machine) (m j : ℕ) → IsAssignment i a → p < process_count i → machine_at a p ≢ m →
      to.0 ≢ m → capped_row i a m j ≡ capped_row i (set a p to) m j
  unfolding filter_row load_row first_row second_row available
  filters_stay p to m j fits within not_left not_entered = grind (arith, use_kept)

  pub no_columns : (table : List ℕ) → length table ≡ filter_row_count i * filter_width i → IsRowTableTo i a 0 table
  no_columns table many = grind arith

  pub next_column : (n : ℕ) (old new : List ℕ) → IsRowTableTo i a n old →
      IsColumnSet i n (filter_row_count i) (capped_row i a n) old new → IsRowTableTo i a (n + 1) new
  next_column n old new so_far column = grind arith

  pub all_columns : (n : ℕ) (table : List ℕ) → WellFormed i → n ≡ machine_count i → IsRowTableTo i a n table →
      IsRowTable i a table
  all_columns n table limits all are = grind (arith, mod-lt)

  -- two columns are computed again, and the others are as they were
  pub renewed_table : (b : List Machine) (from to : ℕ) (old mid new : List ℕ) → AreAlikeElsewhere i a b from to →
      IsRowTable i a old → IsColumnSet i from (filter_row_count i) (capped_row i b from) old mid →
      IsColumnSet i to (filter_row_count i) (capped_row i b to) mid new → IsRowTable i b new
  renewed_table b from to old mid new alike is left entered = grind arith

  -- one process goes from one machine to another
  pub alike_elsewhere : (p from : ℕ) (to : Machine) → IsAssignment i a → p < process_count i → machine_at a p ≡ from →
      AreAlikeElsewhere i a (set a p to) from to.0
  alike_elsewhere p from to fits within here = grind (arith, filters_stay)
