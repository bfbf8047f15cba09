-- What process p asks of the filter rows, as terms for the lanes, and the sums of sixty-four neighbouring machines
-- (this project's).
use Rattle.std.specs.Prelude.{◌≡◌, ◌≢◌, ℕ, ◌+◌, ◌-◌, ◌*◌, ◌%◌, ◌^◌, ◌<◌, ◌≤◌, ◌↔◌, min, List, All, None, true, if◌then◌else◌, nat_lt, slice_index}
use Rattle.std.specs.Int.{bit_at}
use Rattle.ra_base.specs.Sums.{total}
use Rattle.ra_base.specs.Tables.{cell}
use Rattle.ra_shift.specs.Windows.{lacking, amounts}
use Rattle.ra_shift.specs.declared.blocks.Term.{Term}
use Rattle.ra_shift.specs.declared.terms.Asks.{Asks}
use Rattle.ra_model.specs.declared.raw.Tables.{Tables}
use Rattle.ra_model.specs.Numbers.{resource_count, machine_count, balance_count, machine_weight_of, way_cost_of}
use Rattle.ra_model.specs.Assignments.{machine_at}
use Rattle.ra_model.specs.Situations.{Situation}
use Rattle.ra_rows.specs.FilterRows.{load_asked, first_asked, second_asked}
use Rattle.ra_world.specs.FilterTables.{filter_row_count, filter_width}
use Rattle.ra_shift.specs.Arriving.{BreaksNothing, cost_after, sum_at, IsCostBelow}

-- what p asks of row j of the filter rows
unfoldable pub filter_asked : Tables → ℕ → ℕ → ℕ
filter_asked i p j =
    if nat_lt j (resource_count i) then load_asked i p j
    else if nat_lt j (resource_count i + balance_count i)
    then first_asked i p (j - resource_count i)
    else second_asked i p (j - resource_count i - balance_count i)

-- what p asks of row j, and 2^30 + 1 if it is more
unfoldable pub capped_asked : Tables → ℕ → ℕ → ℕ
capped_asked i p j = min (filter_asked i p j) (2 ^ 30 + 1)

-- each term has a filter row
abbrev pub AreInRows : Tables → List Term → Type 0
AreInRows i terms = All (λ t. t.row + filter_width i ≤ filter_row_count i * filter_width i) terms

-- terms for the first n filter rows, each with the amount that is asked of its row
pub record AreTerms (i : Tables) (n : ℕ) (asked : ℕ → ℕ) (terms : List Term) : Type 0 where
  pub asks : amounts terms ≡ total n asked
  pub lacks : (rows : List ℕ) (k : ℕ)
      → lacking rows terms k ≡ total n (λ j. asked j - cell (filter_width i) rows j k)

-- what p asks of the filter rows: terms that are exact if they are said to be small enough for the lanes
pub record AreAsked (i : Tables) (p : ℕ) (asks : Asks) : Type 0 where
  pub rows : AreInRows i asks.terms.items
  pub small : asks.are_small ≡ true → amounts asks.terms.items ≤ 2 ^ 30
  pub terms : asks.are_small ≡ true → AreTerms i (filter_row_count i) (filter_asked i p) asks.terms.items

-- one more term, unless its amount is 0
pub record HasAlsoTerm (old : List Term) (row amount : ℕ) (new : List Term) : Type 0 where
  pub within : (width most : ℕ) → row + width ≤ most → All (λ t. t.row + width ≤ most) old
      → All (λ t. t.row + width ≤ most) new
  pub asks : amounts new ≡ amounts old + amount
  pub lacks : (rows : List ℕ) (k : ℕ)
      → lacking rows new k ≡ lacking rows old k + (amount - slice_index rows (row + k))

-- the k-th machine from a first one on, and after the last machine the first
abbrev pub machine_in : Situation → ℕ → ℕ → ℕ
machine_in st first k = (first + k) % machine_count st.tables

-- a bit for each of sixty-four machines that adds at most a limit, and what it adds
pub record AreSums (st : Situation) (p first limit marks : ℕ) (sums : List ℕ) : Type 0 where
  pub bits : (k : ℕ) → k < 64
      → (bit_at marks k ≡ 1) ↔ (sum_at st p (machine_in st first k) ≤ limit)
  pub each : (k : ℕ) → k < 64 → bit_at marks k ≡ 1
      → slice_index sums k ≡ sum_at st p (machine_in st first k)
  -- a limit that a sum exceeds is below 2^31: a bound that isn't below 2^32 sets no limit in the lanes
  pub passed : (k : ℕ) → k < 64 → limit < sum_at st p (machine_in st first k) → limit < 2 ^ 31

-- what the way from a machine to the k-th of sixty-four costs, with its weight
abbrev pub way_in : Tables → ℕ → ℕ → ℕ → ℕ
way_in i home first k = machine_weight_of i * way_cost_of i home ((first + k) % machine_count i)

-- sixty-four sums with the ways to their machines, and a bit for each that is at most a limit
pub record HaveWays (i : Tables) (home first limit : ℕ) (sums : List ℕ) (marks : ℕ) (with : List ℕ) : Type 0 where
  pub small : (k : ℕ) → k < 64 → way_in i home first k ≤ 2 ^ 30
  pub each : (k : ℕ) → k < 64 → slice_index with k ≡ slice_index sums k + way_in i home first k
  pub bits : (k : ℕ) → k < 64 → (bit_at marks k ≡ 1) ↔ (slice_index with k ≤ limit)

-- a bit for each of sixty-four machines to which a shift may cost less than a bound, and what each adds
pub record AreCheapMarked (st : Situation) (p first bound marks : ℕ) (sums : List ℕ) : Type 0 where
  -- without a bit, the shift costs at least the bound or breaks something, unless p comes home
  pub dear : (k : ℕ) → k < 64 → bit_at marks k ≢ 1
      → machine_at st.start p ≢ machine_in st first k
      → IsCostBelow st p (machine_in st first k) bound None
  -- with a bit, the shift costs less than the bound or breaks something, unless p comes home
  pub cheap : (k : ℕ) → k < 64 → bit_at marks k ≡ 1
      → machine_at st.start p ≢ machine_in st first k
      → BreaksNothing st p (machine_in st first k) → cost_after st p (machine_in st first k) < bound
  pub each : (k : ℕ) → k < 64 → bit_at marks k ≡ 1
      → machine_at st.start p ≢ machine_in st first k
      → slice_index sums k ≡ sum_at st p (machine_in st first k)
