-- Capacity and transient use in one pass: a transient resource whose transient use is within its capacity is used
-- within it too.
use Rattle.std.proofs.Common.{◌≡◌, ℕ, ◌+◌, ◌<◌, ◌≤◌, true, false, List, length, arith}
use Rattle.ra_base.specs.Sums.{is_named}
use Rattle.ra_base.specs.declared.ids.Machine.{Machine}
use Rattle.ra_base.proofs.Searches.{first_none, first_none_at, first_more_none}
use Rattle.ra_model.specs.declared.raw.Tables.{Tables}
use Rattle.ra_model.specs.Numbers.{resource_count, machine_count, transient_at, capacity_of}
use Rattle.ra_model.specs.Usage.{use_share, use_of, transient_share, transient_of}
use Rattle.ra_model.specs.Broken.{row_capacity, broken_capacity, row_transient, broken_transient}
use Rattle.ra_model.proofs.TallyLemmas.{tally_le}
use Rattle.ra_moves.specs.declared.steps.Step.{Step}
use Rattle.ra_moves.specs.Steps.{to_in}
use Rattle.ra_moves.specs.Laws.{OnlyWhere}
use Rattle.ra_weigh.specs.Holding.{FitsAt, FitsBelow, FitsAll}
use Rattle.ra_weigh.proofs.TestLemmas.{capacity_over, capacity_within, transient_over, transient_within, transient_once}
use Rattle.ra_weigh.proofs.HoldLemmas.{NoneAt, none_start, none_more, none_all}

module _ (i : Tables) (a0 : List Machine) where
  share_no_more : (m r p at : ℕ) → use_share i m r p at ≤ transient_share i a0 m r p at
  unfolding use_share transient_share
  share_no_more m r p at = grind arith

  -- what is used is used in between
  pub use_no_more : (a : List Machine) (m r : ℕ) → use_of i a m r ≤ transient_of i a0 a m r
  unfolding use_of transient_of
  use_no_more a m r = grind (arith, tally_le, share_no_more)

  module _ (b : List Machine) (m : ℕ) where
    module _ (r : ℕ) {used : ℕ} (cap : ℕ) where
      -- one resource

      pub fits_twice : used ≡ transient_of i a0 b m r → cap ≡ capacity_of i m r → used ≤ cap → FitsAt i a0 b m r
      fits_twice used_is cap_is within = grind (arith, capacity_within, use_no_more, transient_within)

      pub fits_once : transient_at i r ≡ false → used ≡ use_of i b m r → cap ≡ capacity_of i m r → used ≤ cap →
          FitsAt i a0 b m r
      fits_once once used_is cap_is within = grind (arith, capacity_within, transient_once)

      pub over_twice : transient_at i r ≡ true → used ≡ transient_of i a0 b m r → cap ≡ capacity_of i m r → cap < used →
          FitsAt i a0 b m r → ⊥
      over_twice twice used_is cap_is over fits =
          absurd (cc (transient_over i a0 b m r used_is cap_is twice over, fits.transient))

      pub over_once : used ≡ use_of i b m r → cap ≡ capacity_of i m r → cap < used → FitsAt i a0 b m r → ⊥
      over_once used_is cap_is over fits =
          absurd (cc (capacity_over i b m r used used_is cap_is over, fits.capacity))

    -- a row

    pub below_start : FitsBelow i a0 b m 0
    below_start = record { capacity = first_none _; transient = first_none _ }

    pub below_more : (r : ℕ) → FitsBelow i a0 b m r → FitsAt i a0 b m r → FitsBelow i a0 b m (r + 1)
    below_more r so_far here = grind (arith, first_more_none)

    pub at_from_below : (r n : ℕ) → r < n → FitsBelow i a0 b m n → FitsAt i a0 b m r
    at_from_below r n within all = record {
      capacity = first_none_at r n _ within all.capacity;
      transient = first_none_at r n _ within all.transient;
    }

-- the machines that are entered

-- all rows that the first n steps enter
pub record RowsFit (i : Tables) (a0 b : List Machine) (steps : List Step) (n : ℕ) : Type 0 where
  pub capacity : NoneAt (row_capacity i b) (to_in steps) n
  pub transient : NoneAt (row_transient i a0 b) (to_in steps) n

module _ (i : Tables) (a0 : List Machine) where
  module _ (b : List Machine) where
    pub rows_start : (steps : List Step) → RowsFit i a0 b steps 0
    rows_start steps = record { capacity = none_start _ _; transient = none_start _ _ }

    module _ {steps : List Step} {n : ℕ} where
      pub rows_next : (m : ℕ) → RowsFit i a0 b steps n → to_in steps n ≡ m → FitsBelow i a0 b m (resource_count i) →
          RowsFit i a0 b steps (n + 1)
      unfolding row_capacity row_transient
      rows_next m so_far is here = grind (arith, none_more)

      pub rows_fit_all : OnlyWhere (machine_count i) (is_named (length steps) (to_in steps)) (row_capacity i b) →
          OnlyWhere (machine_count i) (is_named (length steps) (to_in steps)) (row_transient i a0 b) →
          n ≡ length steps → RowsFit i a0 b steps n → FitsAll i a0 b
      unfolding broken_capacity broken_transient
      rows_fit_all capacity transient all fit = record {
        capacity = none_all capacity all fit.capacity;
        transient = none_all transient all
            fit.transient;
      }

    pub below_from_all : (m : ℕ) → m < machine_count i → FitsAll i a0 b → FitsBelow i a0 b m (resource_count i)
    unfolding broken_capacity broken_transient row_capacity row_transient
    below_from_all m within all = record {
      capacity = first_none_at m _ _ within all.capacity;
      transient = first_none_at m _ _ within all.transient;
    }
