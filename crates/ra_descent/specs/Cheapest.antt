-- The cheapest machine to which process p may go.
use Rattle.std.specs.Prelude.{◌≡◌, ℕ, ◌<◌, ◌≤◌, Some, None}
use Rattle.ra_base.specs.declared.ids.Machine.{Machine}
use Rattle.ra_model.specs.Numbers.{machine_count}
use Rattle.ra_model.specs.Assignments.{machine_at}
use Rattle.ra_model.specs.Situations.{Situation, cost_at}
use Rattle.ra_moves.specs.Replacing.{after_move}
use Rattle.ra_shift.specs.Arriving.{BreaksNothing, cost_after, steps_to}
use Rattle.ra_descent.specs.declared.cheapest.Cheapest.{Cheapest}

-- the shift to machine m breaks something, or costs at least a bound
abbrev pub IsDear : Situation → ℕ → ℕ → ℕ → Type 0
IsDear st p m bound = BreaksNothing st p m → bound ≤ cost_after st p m

-- the shift to machine m breaks nothing, and lowers the cost to this one
pub record LowersTo (st : Situation) (p m cost : ℕ) : Type 0 where
  pub within : m < machine_count st.tables
  pub free : BreaksNothing st p m
  pub is : cost ≡ cost_after st p m
  pub lower : cost < cost_at st

-- what is told of the cheapest machine so far is true of it: without a machine, its cost is that of the present list
pub record IsOffer (st : Situation) (p : ℕ) (best : Cheapest) : Type 0 where
  pub none : best.to ≡ None → best.cost ≡ cost_at st
  pub some : (to : Machine) → best.to ≡ Some to → LowersTo st p to.0 best.cost

-- with machine m looked at as well: no dearer than before, and no dearer than the shift to m
pub record HasAlso (st : Situation) (p m : ℕ) (before after : Cheapest) : Type 0 where
  pub offer : IsOffer st p after
  pub lower : after.cost ≤ before.cost
  pub dear : IsDear st p m after.cost

-- the cheapest of the initial machine of p and the first n machines, if the shift there costs less than the present list
pub record IsCheapest (st : Situation) (p n : ℕ) (best : Cheapest) : Type 0 where
  pub offer : IsOffer st p best
  pub home : IsDear st p (machine_at st.start p) best.cost
  pub each : (m : ℕ) → m < n → IsDear st p m best.cost

-- process p has gone to machine m: that breaks nothing, lowers the cost, and no other machine costs less
pub record IsShiftedTo (old : Situation) (p m : ℕ) (new : Situation) : Type 0 where
  pub within : m < machine_count old.tables
  pub free : BreaksNothing old p m
  pub least : (other : ℕ) → other < machine_count old.tables → IsDear old p other (cost_after old p m)
  pub after : new ≡ after_move old (steps_to old p m)

-- process p has gone to its cheapest machine
abbrev pub HasGone : Situation → ℕ → Situation → Type 0
HasGone old p new = (m : ℕ) × IsShiftedTo old p m new
