-- What holds of guards' versions in every history, and of a pass that has locked a guard.
use Rattle.std.specs.Prelude.{◌≡◌, ℕ, Bool, List}
use mathlib.Core.List.{IsPrefix}
use Rattle.ra_turn.specs.declared.story.Story.{Ghosts}
use Rattle.ra_turn.specs.declared.pass.Pass.{Pass}
use Rattle.ra_turn.specs.declared.turn.Turn.{Turn}
use Rattle.ra_turn.specs.Notes.{by, IsVersion}
use Rattle.ra_turn.specs.Passes.{seen_by, notes_made_by, HoldsSame, IsGripped, HasVersion, Shut, SeesNews}

-- a guard has one version in a history
abbrev pub VersionIsOne : {N : Type 0} → (N → Bool) → Type 0
VersionIsOne {N} touched =
    (xs : List N) (v w : ℕ) → IsVersion touched xs v → IsVersion touched xs w → v ≡ w

module _ {V N O : Type 0} {g : Ghosts V N O} where
  -- a take turns the pass p into q
  pub record IsTake (t : Turn V N O) (p q : Pass V N O g) : Type 0 where
    pub number : q.number ≡ p.number
    pub seen : IsPrefix (seen_by p) (seen_by q)
    pub made : notes_made_by q ≡ notes_made_by p
    pub owned : by g.author q.number (seen_by q) ≡ notes_made_by q
    pub grips : HoldsSame p q
    pub shut : Shut t q
    pub news : SeesNews t q

-- at the take after Held, the version that was told is the guard's version in the whole history of that moment
abbrev pub VersionAtTake : {V N O : Type 0} → Ghosts V N O → Turn V N O → Type 0
VersionAtTake {V} {N} {O} g t =
    (p q r : Pass V N O g) (guard asked at : ℕ) → IsGripped t p q guard asked at → IsTake t q r
    → HasVersion t r guard at
