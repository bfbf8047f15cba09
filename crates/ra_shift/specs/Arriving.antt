-- The cost after process p of a world has gone to machine `to` (this project's).
use Rattle.std.specs.Prelude.{◌≡◌, ℕ, ◌+◌, ◌-◌, ◌<◌, ◌≤◌, List, [], ◌∷◌, Option, Some, None}
use Rattle.ra_model.specs.Numbers.{service_of}
use Rattle.ra_model.specs.Services.{in_neighbourhood}
use Rattle.ra_model.specs.Situations.{Situation, cost_at, moved_at, service_cost_at}
use Rattle.ra_moves.specs.declared.steps.Step.{Step}
use Rattle.ra_moves.specs.Judging.{broken_by, IsMoveBelow}
use Rattle.ra_moves.specs.Options.{leaving}
use Rattle.ra_moves.specs.Replacing.{after_move}
use Rattle.ra_shift.specs.Conditions.{shifted}
use Rattle.ra_shift.specs.Filter.{base_added, base_taken, filter_sum}

-- the one step of the shift
abbrev pub steps_to : Situation → ℕ → ℕ → List Step
steps_to st p to = leaving st.here p to ∷ []

-- the shift breaks nothing
abbrev pub BreaksNothing : Situation → ℕ → ℕ → Type 0
BreaksNothing st p to = broken_by st (steps_to st p to) ≡ None

-- the cost after it
abbrev pub cost_after : Situation → ℕ → ℕ → ℕ
cost_after st p to = cost_at (after_move st (steps_to st p to))

-- the moved count of its service after it
abbrev pub moved_after : Situation → ℕ → ℕ → ℕ
moved_after st p to =
    moved_at (record st { here = shifted st.here p to }) (service_of st.tables p)

-- how many processes of service s are in a neighbourhood now
abbrev pub members_near : Situation → ℕ → ℕ → ℕ
members_near st s label = in_neighbourhood st.tables st.here s label

-- the service cost now
abbrev pub service_now : Situation → ℕ
service_now st = service_cost_at st

-- for every machine but the initial one: the cost now plus what is added, and what is taken away
abbrev pub cost_added : Situation → ℕ → ℕ
cost_added st p = cost_at st + base_added st p

abbrev pub cost_taken : Situation → ℕ → ℕ
cost_taken st p = base_taken st p

-- how much a machine other than the initial one may add, and the cost is below a bound: it has to be less than this
abbrev pub room_below : Situation → ℕ → ℕ → ℕ
room_below st p bound = bound + cost_taken st p - cost_added st p

-- what each machine other than the initial one adds
abbrev pub sum_at : Situation → ℕ → ℕ → ℕ
sum_at st p to = filter_sum st p to

-- a cost if the shift breaks nothing and costs less than a bound, and none if it breaks something or costs more
abbrev pub IsCostBelow : Situation → ℕ → ℕ → ℕ → Option ℕ → Type 0
IsCostBelow st p to bound cost = IsMoveBelow st (steps_to st p to) bound cost

-- the sum of a machine, if it is below a bound
pub record IsSumBelow (st : Situation) (p to bound : ℕ) (sum : Option ℕ) : Type 0 where
  pub found : (n : ℕ) → sum ≡ Some n → n ≡ sum_at st p to
  pub below : (n : ℕ) → sum ≡ Some n → n < bound
  pub none : sum ≡ None → bound ≤ sum_at st p to
