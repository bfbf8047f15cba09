-- Plans that are refused wherever they are recorded, as long as their guards are untouched.
use Rattle.std.specs.Prelude.{◌≡◌, ◌⊎◌, ℕ, ◌+◌, ◌*◌, ◌≤◌, pos, ◌<ℤ◌, Some, None, IfSome}
use Rattle.ra_base.specs.declared.causes.Cause.{Cause}
use Rattle.ra_model.specs.declared.raw.Tables.{Tables}
use Rattle.ra_model.specs.Numbers.{service_weight_of}
use Rattle.ra_moves.specs.declared.verdicts.Plan.{Plan}
use Rattle.ra_moves.specs.declared.verdicts.Weighed.{Weighed}

-- no moved count of a weighing falls by more than n
pub record FallsBy (weighed : Weighed) (n : ℕ) : Type 0 where
  pub first : IfSome weighed.first (λ c. c.before ≤ c.after + n)
  pub second : IfSome weighed.second (λ c. c.before ≤ c.after + n)
  pub third : IfSome weighed.third (λ c. c.before ≤ c.after + n)

-- a move breaks nothing, but the other parts of the cost rise by more than the allowance and the most by which the
-- service cost can fall
pub record IsDear (i : Tables) (rise : ℕ) (weighed : Weighed) : Type 0 where
  pub unbroken : weighed.broken ≡ None
  pub fall : ℕ
  pub falls : FallsBy weighed fall
  pub above : pos (rise + service_weight_of i * fall) <ℤ weighed.local

-- a plan that may raise the cost by this much is refused: its move breaks a constraint, or is too dear
abbrev pub IsRefused : Tables → ℕ → Plan → Type 0
IsRefused i rise plan =
    ((cause : Cause) × (plan.weighed.broken ≡ Some cause)) ⊎ IsDear i rise plan.weighed
