-- The sum of the lanes is the filter's sum.
use Rattle.std.proofs.Common.{◌≡◌, ◌≢◌, ◌↔◌, ℕ, ◌+◌, ◌-◌, ◌*◌, ◌%◌, ◌^◌, ◌<◌, ◌≤◌, min, None, ltb, List, length, get_or, refl, ap, ap₂, sym, ◌∙◌, ⊎_elim, arith, mul-le-mul_left}
use Rattle.std.specs.Int.{bit_at}
use Rattle.std.specs.List.{All}
use Rattle.std.proofs.lemmas.Bool.{cases_lt, cond-true, lt-ltb, le-ltb}
use Rattle.std.proofs.lemmas.List.Elements.{All-weaker}
use Rattle.std.proofs.lemmas.Nat.Bits.{bit_at-zero}
use Rattle.ra_base.specs.Sums.{total}
use Rattle.ra_base.specs.Tables.{cell}
use Rattle.ra_base.specs.declared.ids.Machine.{Machine}
use Rattle.ra_base.proofs.Sums.{total_of_sum, total_same, total_split, total_term}
use Rattle.ra_shift.specs.Windows.{lacking, amounts, IsRingPart, IsSumOrLarge}
use Rattle.ra_shift.specs.declared.blocks.Term.{Term}
use Rattle.ra_shift.proofs.SumLemmas.{lacking_within}
use Rattle.ra_model.specs.declared.raw.Tables.{Tables}
use Rattle.ra_model.specs.Numbers.{resource_count, machine_count, process_count, balance_count, way_cost_of}
use Rattle.ra_model.specs.Assignments.{machine_at}
use Rattle.ra_model.specs.Situations.{Situation, IsSound}
use Rattle.ra_rows.specs.FilterRows.{load_asked, load_row, first_asked, first_row, second_asked, second_row}
use Rattle.ra_world.specs.FilterTables.{filter_row_count, filter_width, filter_row, IsRowTable}
use Rattle.ra_shift.specs.Arriving.{BreaksNothing, cost_after, cost_added, cost_taken, sum_at, IsCostBelow}
use Rattle.ra_shift.specs.Filter.{load_above, balance_above, filter_sum}
use Rattle.ra_shift.specs.Lanes.{filter_asked, AreInRows, AreTerms, AreSums, AreCheapMarked, HaveWays, machine_in, way_in}
use Rattle.ra_shift.proofs.FilterLaws.{dear_cost, filtered_at, sum_none}

-- what is lacking in all rows
above_of : Tables → List Machine → ℕ → ℕ → ℕ → ℕ
above_of i a p m j = filter_asked i p j - filter_row i a m j

-- a capped number lacks nothing of an amount that isn't above the cap
capped_lacks : (x y : ℕ) → x ≤ 2 ^ 30 → x - min y (2 ^ 30) ≡ x - y
capped_lacks x y small = omega arith

module _ (i : Tables) where
  -- what is asked of each kind of row, and what a machine has there
  asked_load : (p j : ℕ) → j < resource_count i → filter_asked i p j ≡ load_asked i p j
  unfolding filter_asked
  asked_load p j below = cond-true (ltb j (resource_count i)) _ _ (lt-ltb _ _ below)

  asked_first : (p b : ℕ) → b < balance_count i → filter_asked i p (resource_count i + b) ≡ first_asked i p b
  unfolding filter_asked
  asked_first p b below = grind (arith, le-ltb, lt-ltb)

  asked_second : (p b : ℕ) → filter_asked i p (resource_count i + balance_count i + b) ≡ second_asked i p b
  unfolding filter_asked
  asked_second p b = grind (arith, le-ltb)

  module _ (a : List Machine) where
    row_load : (m j : ℕ) → j < resource_count i → filter_row i a m j ≡ load_row i a m j
    unfolding filter_row
    row_load m j below = cond-true (ltb j (resource_count i)) _ _ (lt-ltb _ _ below)

    row_first : (m b : ℕ) → b < balance_count i → filter_row i a m (resource_count i + b) ≡
        first_row i a m b
    unfolding filter_row
    row_first m b below = grind (arith, le-ltb, lt-ltb)

    row_second : (m b : ℕ) → filter_row i a m (resource_count i + balance_count i + b) ≡
        second_row i a m b
    unfolding filter_row
    row_second m b = grind (arith, le-ltb)

    module _ (p m : ℕ) where
      load_rows : total (resource_count i) (above_of i a p m) ≡ load_above i a p m
      unfolding load_above above_of
      load_rows = grind (arith, total_same, above_of, asked_load, row_load)

      balance_rows : total (balance_count i) (λ b. above_of i a p m (resource_count i + b)) + total (balance_count i)
          (λ b. above_of i a p m (resource_count i + balance_count i + b)) ≡ balance_above i a p m
      unfolding balance_above above_of
      balance_rows =
          let one : ℕ → ℕ = λ b. first_asked i p b - first_row i a m b in
          let two : ℕ → ℕ = λ b. second_asked i p b - second_row i a m b in
          let firsts = total_same (balance_count i) (λ b. above_of i a p m (resource_count i + b)) one
          (λ b below. ap₂ (λ x y. x - y) (asked_first p b below) (row_first m b below)) in
          let seconds = total_same (balance_count i) (λ b. above_of i a p m (resource_count i + balance_count i + b)) two
          (λ b below. ap₂ (λ x y. x - y) (asked_second p b) (row_second m b)) in
          ap₂ (λ x y. x + y) firsts seconds ∙ sym (total_of_sum (balance_count i) one two)

      rows_add_up : total (filter_row_count i) (above_of i a p m) ≡
          load_above i a p m + balance_above i a p m
      rows_add_up = grind (arith, total_split, above_of, load_rows, balance_rows)

    pub lanes_lack : (p place : ℕ) (table : List ℕ) (terms : List Term) →
        IsRowTable i a table → AreTerms i (filter_row_count i) (filter_asked i p) terms → amounts terms ≤ 2 ^ 30 →
        place < filter_width i → lacking table terms place ≡ load_above i a p (place % machine_count i)
        + balance_above i a p (place % machine_count i)
    unfolding above_of
    lanes_lack p place table terms rows are small within =
        let n = filter_row_count i in
        let m = place % machine_count i in
        let low : total n (filter_asked i p) ≤ 2 ^ 30 = omega (arith, small, are.asks) in
        are.lacks table place
        ∙ total_same n (λ j. filter_asked i p j - cell (filter_width i) table j place) (above_of i a p m)
        (λ j below. ap (λ x. filter_asked i p j - x) (rows.each j place below within)
        ∙ capped_lacks (filter_asked i p j) (filter_row i a m j)
        (omega (arith, low, total_term n j (filter_asked i p) below)))
        ∙ rows_add_up p m

    -- a window is within each row
    pub rows_within : (first : ℕ) (table : List ℕ) (terms : List Term) →
        IsRowTable i a table → AreInRows i terms → first < machine_count i →
        All (λ t. t.row + first + 64 ≤ length table) terms
    rows_within first table terms rows are within = grind (arith, All-weaker)

  -- the ways of a window, cut out of the ring of all ways from a machine
  pub ways_in_ring : (home first : ℕ) (ring part : List ℕ) → first < machine_count i →
      length ring ≡ machine_count i → ((to : ℕ) → to < machine_count i → get_or ring to 0 ≡ way_cost_of i home to) →
      IsRingPart ring first 64 part → (k : ℕ) → k < 64 →
      get_or part k 0 ≡ way_cost_of i home ((first + k) % machine_count i)
  ways_in_ring home first ring part some many each are k below = grind arith

-- no bit of 0 is set
zero_unset : (k : ℕ) → bit_at 0 k ≡ 1 → ⊥
zero_unset k set = absurd (omega (arith, set, bit_at-zero k))

module _ (limit said sum : ℕ) where
  -- a number instead of a sum: it is the sum if it is at most the limit, it is at most the sum, and if it is above the
  -- limit so is the sum
  same_if_small : IsSumOrLarge limit said sum → said ≤ limit → said ≡ sum
  same_if_small either low =
      ⊎_elim (λ same. same) (λ part. absurd (omega (arith, part.0)))
      either

  pub at_most : IsSumOrLarge limit said sum → said ≤ sum
  at_most either =
      ⊎_elim (λ same. omega arith) (λ part. part.1) either

  above_from : IsSumOrLarge limit said sum → (said ≤ limit → ⊥) → limit < sum
  above_from either high = grind (arith, at_most)

-- what is above the limit of a room isn't below the room
above_limit : (room limit sum : ℕ) → 0 < room → limit ≡ min (room - 1) (2 ^ 32 - 1) → limit < 2 ^ 31 → limit < sum →
    room ≤ sum
above_limit room limit sum some is small above = omega arith

module _ (w : Situation) where
  in_machines : (first k : ℕ) → IsSound w → machine_in w first k < machine_count w.tables
  in_machines first k sound = omega (arith, sound.well_formed.some_machine)

  module _ (p : ℕ) where
    dear_at : (to bound taken added room : ℕ) → IsSound w → p < process_count w.tables →
        to < machine_count w.tables → machine_at w.start p ≢ to → taken ≡ cost_taken w p →
        added ≡ cost_added w p → room ≡ bound + taken - added → room ≤ sum_at w p to → IsCostBelow w p to bound None
    dear_at to bound taken added room sound known reach apart taken_is added_is room_is above =
        dear_cost w p to bound taken added room None None sound known reach apart taken_is added_is room_is
        (sum_none w p to room (sum_at w p to) above (omega arith)) refl refl

    cheap_at : (to bound taken added room limit : ℕ) → IsSound w → p < process_count w.tables →
        to < machine_count w.tables → machine_at w.start p ≢ to → taken ≡ cost_taken w p →
        added ≡ cost_added w p → room ≡ bound + taken - added → 0 < room → limit ≡ min (room - 1) (2 ^ 32 - 1) →
        sum_at w p to ≤ limit → BreaksNothing w p to → cost_after w p to < bound
    cheap_at to bound taken added room limit sound known reach apart taken_is added_is room_is some limit_is low free =
        omega (arith, filtered_at w p to sound known reach free apart, taken_is, added_is, room_is, some, limit_is, low)

    module _ (first : ℕ) where
      -- what the machines of a window lack, and their ways
      pub window_lacks : (table : List ℕ) (terms : List Term) →
          IsRowTable w.tables w.here table → AreTerms w.tables (filter_row_count w.tables)
          (filter_asked w.tables p) terms → amounts terms ≤ 2 ^ 30 → first < machine_count w.tables →
          (k : ℕ) → k < 64 → sum_at w p (machine_in w first k) ≡ lacking table terms (first + k)
          + way_in w.tables (machine_at w.start p) first k
      unfolding filter_sum
      window_lacks table terms rows are small within k below = grind (arith, lanes_lack)

      -- the sums of a window of which no machine is at most a limit even without its way
      pub far_sums : (limit : ℕ) (table said sums : List ℕ) (terms : List Term) →
          amounts terms ≤ 2 ^ 30 →
          ((k : ℕ) → k < 64 → sum_at w p (machine_in w first k) ≡ lacking table terms (first + k)
          + way_in w.tables (machine_at w.start p) first k) →
          ((k : ℕ) → k < 64 → IsSumOrLarge limit (get_or said k 0) (lacking table terms (first + k))) →
          ((k : ℕ) → k < 64 → (bit_at 0 k ≡ 1) ↔ (get_or said k 0 ≤ limit)) → AreSums w p first limit 0 sums
      far_sums limit table said sums terms small each are bits = grind (arith, above_from, zero_unset, lacking_within)

      -- the sums of a window with the ways
      pub near_sums : (limit marks : ℕ) (table said sums : List ℕ) (terms : List Term) →
          amounts terms ≤ 2 ^ 30 → ((k : ℕ) → k < 64 → sum_at w p (machine_in w first k) ≡ lacking table terms (first + k)
          + way_in w.tables (machine_at w.start p) first k) →
          ((k : ℕ) → k < 64 → IsSumOrLarge limit (get_or said k 0) (lacking table terms (first + k))) →
          HaveWays w.tables (machine_at w.start p) first limit said marks sums →
          AreSums w p first limit marks sums
      near_sums limit marks table said sums terms small each are have = record {
        bits = λ k below. (
          λ set. omega (
            arith,
            each k below,
            have.each k below,
            said_is k below ((have.bits k below).0 set),
            (have.bits k below).0 set,
          ),
          λ low. (have.bits k below).1 (omega (
            arith,
            low,
            each k below,
            have.each k below,
            said_least k below,
          )),
        );
        each = λ k below set. omega (arith, each k below, have.each k below, said_is k below ((have.bits k below).0 set));
        passed = λ k below high. omega (
          arith,
          high,
          each k below,
          have.small k below,
          small,
          lacking_within table terms (first + k),
        );
      }
        where
          said_is : (k : ℕ) → k < 64 → get_or sums k 0 ≤ limit → get_or said k 0 ≡ lacking table terms (first + k)
          said_is k below low = same_if_small limit (get_or said k 0) _ (are k below) (omega (arith, low, have.each k below))

          said_least : (k : ℕ) → k < 64 → get_or said k 0 ≤ lacking table terms (first + k)
          said_least k below = at_most limit (get_or said k 0) _ (are k below)

      pub marked : (bound taken added room limit marks : ℕ) (sums : List ℕ) →
          IsSound w → p < process_count w.tables → taken ≡ cost_taken w p → added ≡ cost_added w p →
          room ≡ bound + taken - added →
          0 < room → limit ≡ min (room - 1) (2 ^ 32 - 1) → AreSums w p first limit marks sums →
          AreCheapMarked w p first bound marks sums
      marked bound taken added room limit marks sums sound known taken_is added_is room_is some limit_is are =
          record {
            dear = λ k below unset apart.
                let to = machine_in w first k in
                let above =
                ⊎_elim (λ high. high)
                (λ low. absurd (unset ((are.bits k below).1 low)))
                (cases_lt limit (sum_at w p to)) in
                dear_at to bound taken added room sound known (in_machines first k sound) apart taken_is added_is
                room_is
                (above_limit room limit (sum_at w p to) some limit_is (are.passed k below above) above);
            cheap = λ k below set apart free. cheap_at (machine_in w first k) bound taken added room limit sound known
                (in_machines first k sound) apart taken_is added_is room_is some limit_is ((are.bits k below).0 set) free;
            each = λ k below set apart. are.each k below set;
          }

      -- if there is no room, nothing is marked
      pub none_marked : (bound taken added room : ℕ) (sums : List ℕ) → IsSound w →
          p < process_count w.tables →
          taken ≡ cost_taken w p → added ≡ cost_added w p → room ≡ bound + taken - added → room ≡ 0 →
          AreCheapMarked w p first bound 0 sums
      none_marked bound taken added room sums sound known taken_is added_is room_is none =
          grind (arith, dear_at, in_machines, zero_unset)

-- a way at a weight
pub way_small : (weight way most : ℕ) → way ≤ most → weight * most ≤ 2 ^ 30 → weight * way ≤ 2 ^ 30
way_small weight way most low small = omega (arith, mul-le-mul_left weight low, small)
