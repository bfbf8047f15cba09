-- Pins are made of exact flags and of the loads by the flagged processes.
use Rattle.std.proofs.Common.{arith, ◌≡◌, ℕ, ◌<◌, Bool, ◌&&◌, cond, eqb, List, ap}
use Rattle.ra_base.specs.Tables.{cell}
use Rattle.ra_base.specs.declared.ids.Machine.{Machine}
use Rattle.ra_model.specs.declared.raw.Tables.{Tables}
use Rattle.ra_model.specs.Numbers.{resource_count, machine_count, process_count, requirement_of}
use Rattle.ra_model.specs.Assignments.{IsAssignment, machine_at}
use Rattle.ra_model.proofs.TallyLemmas.{tally_same}
use Rattle.ra_pins.specs.Pinned.{flagged_share, flagged_use, is_pinned, pinned_load}
use Rattle.ra_pins.specs.PinLists.{PinLists, flag_at}
use Rattle.ra_pins.specs.Pins.{AreExact, ArePins}
use Rattle.ra_pins.specs.Loads.{IsTallyTable}

module _ (i : Tables) (a0 : List Machine) where
  share_exact : (flags : List Bool) (m r z : ℕ) → AreExact i a0 flags → z < process_count i →
      flagged_share i (flag_at flags) m r z (machine_at a0 z) ≡ flagged_share i (is_pinned i a0) m r z (machine_at a0 z)
  unfolding flagged_share
  share_exact flags m r z exact h =
      ap (λ b. cond (b && eqb (machine_at a0 z) m) (requirement_of i z r) 0) (exact.each z h)

  pub loads_pinned : (flags : List Bool) (table : List ℕ) (m r : ℕ) → AreExact i a0 flags →
      IsTallyTable i (process_count i) (flagged_share i (flag_at flags)) a0 table → r < resource_count i →
      cell (resource_count i) table m r ≡ pinned_load i a0 m r
  unfolding pinned_load flagged_use
  loads_pinned flags table m r exact sums w = grind (arith, tally_same, share_exact)

  pub pins_made : (pins : PinLists) → IsAssignment i a0 → pins.machines ≡ machine_count i →
      pins.resources ≡ resource_count i → AreExact i a0 pins.flags →
      IsTallyTable i (process_count i) (flagged_share i (flag_at pins.flags)) a0 pins.loads → ArePins pins i a0
  pins_made pins fits machines resources exact sums = record {
    fits = fits;
    pinned = exact;
    machines = machines;
    resources = resources;
    loads = λ m r m_in r_in. loads_pinned pins.flags pins.loads m r exact sums r_in;
  }
