-- What an attempt to lock a guard leaves and answers.
use Rattle.std.specs.Prelude.{◌≡◌, ℕ, ◌≤◌, ◌<◌, Bool, List, [], ◌∷◌, ◌++◌, length, Contains}
use Rattle.atomic_table.specs.Table.{Me}
use Rattle.ra_turn.specs.Views.{view, slots}
use Rattle.ra_turn.specs.declared.guards.Hold.{Hold}
use Rattle.ra_turn.specs.declared.guards.Hold.TheVariants.{Held, Newer}
use Rattle.ra_turn.specs.declared.sight.Grip.{Grip}
use Rattle.ra_turn.specs.declared.sight.Sight.{Sight}
use Rattle.ra_turn.specs.Notes.{grip}
use Rattle.ra_turn.specs.Steps.{IsShut, IsCurrent}

-- nothing that was told before is lost
abbrev pub KeepsNews : List Grip → List Grip → Type 0
KeepsNews ks ks' = ((k : Grip) → Contains ks k → Contains ks' k) × (length ks ≤ length ks')

-- the last news is a guard's version, and all that `told` has was told before it; the latest news come first
pub record IsLastTold (told news : List Grip) (guard at : ℕ) : Type 0 where
  pub earlier : List Grip
  pub last : news ≡ grip guard at ∷ earlier
  pub before : length told ≤ length earlier

module _ {S N O : Type 0} where
  -- nothing changed except which guards the seat has locked and what it was told
  abbrev pub OnlyHolds : Me S (Sight N O) → Me S (Sight N O) → Type 0
  OnlyHolds m m' =
      (m' ≡ (record (view m) { grips = (view m').grips; news = (view m').news }, slots m))
      × KeepsNews (view m).news (view m').news

module _ {N O : Type 0} (author : N → ℕ) (touches : O → N → ℕ → Bool) where
  -- The view v is that after the answer, and `told` is what it was told before. Held: the guard is locked as well, at a
  -- version of at most the one asked for. Newer: the latest news is a version above it, and the same guards are locked
  -- as before
  abbrev pub IsAnswerAt : ℕ → ℕ → List Grip → List Grip → Sight N O → Hold → Type 0
  IsAnswerAt guard asked grips told v (Held at) =
      (at ≤ asked) × (v.grips ≡ grips ++ grip guard at ∷ []) × IsShut author touches v
      × IsCurrent touches v guard at × (0 < at → Contains v.news (grip guard at))
  IsAnswerAt guard asked grips told v (Newer at) =
      (asked < at) × (v.grips ≡ grips) × Contains v.news (grip guard at)
      × IsLastTold told v.news guard at
