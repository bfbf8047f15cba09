-- The best option of a window in which only some machines are marked.
use Rattle.std.proofs.Common.{◌≡◌, ◌≢◌, ℕ, zero, suc, ◌+◌, ◌-◌, ◌%◌, ◌<◌, ◌≤◌, min, List, get_or, None, refl, subst, arith}
use Rattle.std.specs.Int.{bit_at}
use Rattle.ra_base.specs.declared.causes.Drawing.TheVariants.{Two}
use Rattle.ra_model.specs.Numbers.{machine_count}
use Rattle.ra_model.specs.Assignments.{machine_at}
use Rattle.ra_model.specs.Situations.{Situation, cost_at}
use Rattle.ra_shift.specs.Arriving.{sum_at, IsCostBelow}
use Rattle.ra_shift.specs.Lanes.{machine_in, AreCheapMarked}
use Rattle.ra_plan.specs.Choosing.{IsBest, IsWindowOf, cost_to_beat}
use Rattle.ra_plan.specs.declared.best.Best.{Best}
use Rattle.std.specs.Prelude.{slice_index}
use Rattle.ra_moves.specs.declared.steps.MoveKind.TheVariants.{Shift}
use Rattle.ra_moves.specs.Options.{kind_of, drawn}
use Rattle.ra_plan.proofs.OptionSizes.{window_target}
use Rattle.ra_plan.proofs.Bests.{shift_in}
use Rattle.ra_plan.proofs.Below.{move_stays}

-- the marks of a window with one for the initial machine
pub record HasHome (w : Situation) (p first count marks all : ℕ) : Type 0 where
  pub here : (k : ℕ) → k < count → machine_in w first k ≡ machine_at w.start p → bit_at all k ≡ 1
  pub others : (k : ℕ) → k < count → machine_in w first k ≢ machine_at w.start p → bit_at all k ≡ bit_at marks k

module _ (w : Situation) (p : ℕ) where
  -- what costs a bound costs a lower one
  lower_none : (to most bound : ℕ) → IsCostBelow w p to most None → bound ≤ most → IsCostBelow w p to bound None
  lower_none to most bound below low = grind arith

  pub with_home : {first count home machines marks all : ℕ} → home ≡ machine_at w.start p →
      machines ≡ machine_count w.tables → count ≡ min machines 64 →
      ((k : ℕ) → k < 64 → k < machines → (first + k) % machines ≡ home → bit_at all k ≡ 1) →
      ((k : ℕ) → k < 64 → k < machines → (first + k) % machines ≢ home → bit_at all k ≡ bit_at marks k) →
      HasHome w p first count marks all
  with_home {first} home_is machines_is count_is here others = grind arith

  module _ {first most count marks all : ℕ} (k : ℕ) {sums : List ℕ}
      (marked : AreCheapMarked w p first most marks sums) (home : HasHome w p first count marks all)
      (few : count ≤ 64) (below : k < count) where
    pub unmarked_dear : bit_at all k ≢ 1 → IsCostBelow w p (machine_in w first k) most None
    unmarked_dear unset = grind arith

    pub marked_sum : bit_at all k ≡ 1 → machine_at w.start p ≢ machine_in w first k →
        get_or sums k 0 ≡ sum_at w p (machine_in w first k)
    marked_sum set apart = grind arith

-- options that cost too much are passed over
skips_by : (d : ℕ) (w : Situation) (x : List ℕ) (allowed p first most from : ℕ) (best : Best) →
    most ≡ cost_at w + allowed + 1 → IsWindowOf w x p first → cost_to_beat best.cost most ≤ most →
    ((k : ℕ) → from ≤ k → k < from + d → IsCostBelow w p (machine_in w first k) most None) →
    IsBest w x Two allowed from best → IsBest w x Two allowed (from + d) best
skips_by zero w x allowed p first most from best is window low dear best_is =
    subst (λ n. IsBest w x Two allowed n best) (omega arith) best_is
skips_by (suc d) w x allowed p first most from best is window low dear best_is =
    let so_far = skips_by d w x allowed p first most from best is window low
    (λ k after before. dear k after (omega arith)) best_is in
    let to : ℕ = machine_in w first (from + d) in
    let here = subst (λ m. IsCostBelow w p to (cost_to_beat best.cost m) None) is
    (lower_none w p to most (cost_to_beat best.cost most) (dear (from + d) (omega arith) (omega arith)) low) in
    subst (λ n. IsBest w x Two allowed n best) (omega arith)
    (move_stays w so_far (window.each (from + d)) here refl)

module _ (w : Situation) (x : List ℕ) where
  pub skips : {allowed p first most from : ℕ} (end : ℕ) {best : Best} → most ≡ cost_at w + allowed + 1 →
      IsWindowOf w x p first → cost_to_beat best.cost most ≤ most → from ≤ end →
      ((k : ℕ) → from ≤ k → k < end → IsCostBelow w p (machine_in w first k) most None) →
      IsBest w x Two allowed from best → IsBest w x Two allowed end best
  skips {allowed} {p} {first} {most} {from} end {best} is window low within dear best_is =
      let same : from + (end - from) ≡ end = omega arith in
      subst (λ n. IsBest w x Two allowed n best) same
      (skips_by (end - from) w x allowed p first most from best is window low
      (λ k after before. dear k after (omega arith)) best_is)

  -- the options of a window
  pub window_of : (m first p : ℕ) → m ≡ machine_count w.tables → kind_of x ≡ Shift → p ≡ drawn w.here x 1 →
      first ≡ slice_index x 2 % m → IsWindowOf w x p first
  window_of m first p machines is process first_is = grind (arith, shift_in, window_target)
