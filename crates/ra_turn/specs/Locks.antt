-- The rule of the guards' words.
use Rattle.std.specs.Prelude.{◌≡◌, ℕ, ◌+◌, ◌*◌, ◌<◌, Bool, List, length, slice_index, All, Contains}
use mathlib.Core.Option.{some}
use lib.ListN.{get_elem?}
use Rattle.ra_turn.specs.declared.sight.Sight.{Sight}
use Rattle.ra_turn.specs.Stages.{IsLive}
use Rattle.ra_turn.specs.Notes.{grip, touching, OnlyBy, IsVersion, IsNews}

-- the state of a guard: free at a version, or locked by a seat, for a pass's number, at a version
pub data Latch : Type 0 where
  free : (version : ℕ) → Latch
  taken : (seat : ℕ) → (number : ℕ) → (version : ℕ) → Latch

-- a view that has locked the guard at the version
abbrev pub HasGrip : {N O : Type 0} → ℕ → ℕ → Sight N O → Type 0
HasGrip guard version v = IsLive v.stage × Contains v.grips (grip guard version)

module _ {N : Type 0} (touched : N → Bool) (author : N → ℕ) (history : List N) (word : ℕ) where
  -- The word of a free guard is twice its version, and that of a locked one is one more than twice the version at which
  -- it was locked. Each later note that touches a locked guard is by the number that has locked it
  abbrev pub Latched : Latch → Type 0
  Latched (free v) = (word ≡ 2 * v) × IsVersion touched history v
  Latched (taken seat number v) = (word ≡ 2 * v + 1) × OnlyBy touched author number history v

module _ {N O : Type 0} (author : N → ℕ) (touches : O → N → ℕ → Bool) (o : O) (guards : ℕ) where
  -- Each guard has one latch. A guard that a view has locked is locked by its seat, a guard that is locked is locked in
  -- the view of its seat, and what a view was told is true
  pub record Locks (history : List N) (words : List ℕ) (views : List (Sight N O)) : Type 0 where
    pub latch : ℕ → Latch
    pub count : length words ≡ guards
    pub shows : (guard : ℕ) → guard < guards
        → Latched (touching touches o guard) author history (slice_index words guard) (latch guard)
    pub grips : (i : ℕ) (v : Sight N O) → get_elem? views i ≡ some v
        → All (λ k. (k.guard < guards) × (latch k.guard ≡ taken i v.own.number k.version)) v.grips
    pub holder : (guard seat number version : ℕ) → guard < guards
        → latch guard ≡ taken seat number version
        → (v : Sight N O) × HasGrip guard version v × (get_elem? views seat ≡ some v)
    pub news : (i : ℕ) (v : Sight N O) → get_elem? views i ≡ some v
        → All (IsNews touches o history) v.news
