-- The best of the first options of a proposal.
use Rattle.std.specs.Prelude.{◌≡◌, ℕ, List, [], ◌∷◌, Option, Some, None}
use Rattle.ra_base.specs.Searches.{least, least_place}
use Rattle.ra_base.specs.declared.causes.Drawing.{Drawing}
use Rattle.ra_base.specs.declared.causes.Drawing.TheVariants.{Two}
use Rattle.ra_model.specs.Numbers.{machine_count}
use Rattle.ra_model.specs.Situations.{Situation}
use Rattle.ra_moves.specs.Options.{leaving, option_at, option_cost}
use Rattle.ra_moves.specs.declared.steps.Step.{Step}
use Rattle.ra_shift.specs.Lanes.{machine_in}
use Rattle.ra_plan.specs.declared.best.Best.{Best}

-- the cost of option k, if it is judged Done on the assignment of a world
unfoldable pub cost_in : Situation → List ℕ → Drawing → ℕ → ℕ → Option ℕ
cost_in st x d allowed k = option_cost st x d allowed k

-- the steps of option k
unfoldable pub steps_in : Situation → List ℕ → Drawing → ℕ → List Step
steps_in st x d k = (option_at st.here x (machine_count st.tables) d k).steps

-- what a cost has to be below: that of the best so far, or else the first that is too high
unfoldable pub cost_to_beat : Option ℕ → ℕ → ℕ
cost_to_beat None most = most
cost_to_beat (Some least) most = least

-- the first of least cost among the first n options that are judged Done, with its cost
pub record IsBest (st : Situation) (x : List ℕ) (d : Drawing) (allowed n : ℕ) (best : Best) : Type 0
  where
    pub cost : best.cost ≡ least n (cost_in st x d allowed)
    pub option : best.option ≡ least_place n (cost_in st x d allowed)

-- option k of the words x moves process p to the k-th machine from a first one on
pub record IsWindowOf (st : Situation) (x : List ℕ) (p first : ℕ) : Type 0 where
  pub each : (k : ℕ) → steps_in st x Two k ≡ leaving st.here p (machine_in st first k) ∷ []
