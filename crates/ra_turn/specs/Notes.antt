-- What the notes of a history say of their authors and of guards.
use Rattle.std.specs.Prelude.{◌≡◌, ℕ, ◌-◌, ◌==◌, ◌≤◌, ◌<◌, Bool, true, false, not, List, length, filter, slice_get, All}
use Rattle.std.specs.Prelude.{Contains, Some}
use mathlib.Core.List.{IsPrefix}
use Rattle.ra_turn.specs.declared.sight.Grip.{Grip}
use Rattle.ra_turn.specs.declared.sight.Part.{Part}

-- the notes by one number, in their order
abbrev pub by : {N : Type 0} → (N → ℕ) → ℕ → List N → List N
by author number xs = filter (λ x. author x == number) xs

-- what a pass has seen is a prefix of the notes xs, and its own notes are exactly those of xs by its number
pub record StandsInNotes {N : Type 0} (author : N → ℕ) (xs : List N) (p : Part N) : Type 0 where
  pub seen : IsPrefix p.seen xs
  pub mine : by author p.number xs ≡ p.mine

-- a guard with a version
abbrev pub grip : ℕ → ℕ → Grip
grip guard version = record { guard = guard; version = version }

-- the grips without those of one guard
abbrev pub without : ℕ → List Grip → List Grip
without guard ks = filter (λ k. not (k.guard == guard)) ks

-- whether a note touches the guard
abbrev pub touching : {N O : Type 0} → (O → N → ℕ → Bool) → O → ℕ → N → Bool
touching touches o guard x = touches o x guard

module _ {N : Type 0} (touched : N → Bool) where
  -- the note at the place k touches the guard
  abbrev pub TouchedAt : List N → ℕ → Type 0
  TouchedAt xs k = (x : N) × (slice_get xs k ≡ Some x) × (touched x ≡ true)

  -- no note from the place v on touches the guard
  abbrev pub QuietFrom : List N → ℕ → Type 0
  QuietFrom xs v = (k : ℕ) (x : N) → v ≤ k → slice_get xs k ≡ Some x → touched x ≡ false

  -- each note from the place v on that touches the guard is by the number
  abbrev pub OnlyBy : (N → ℕ) → ℕ → List N → ℕ → Type 0
  OnlyBy author number xs v =
      (k : ℕ) (x : N) → v ≤ k → slice_get xs k ≡ Some x → touched x ≡ true → author x ≡ number

  -- the guard's version: one more than the place of the last note that touches it, or 0
  pub record IsVersion (xs : List N) (v : ℕ) : Type 0 where
    pub within : v ≤ length xs
    pub last : 0 < v → TouchedAt xs (v - 1)
    pub quiet : QuietFrom xs v

module _ {N O : Type 0} (touches : O → N → ℕ → Bool) (o : O) where
  -- a version that a pass was told of: the note at the place before it touches the guard
  abbrev pub IsNews : List N → Grip → Type 0
  IsNews xs k = (0 < k.version) × TouchedAt (touching touches o k.guard) xs (k.version - 1)

  -- each guard that the note touches is locked
  abbrev pub HoldsAll : List Grip → N → Type 0
  HoldsAll grips n =
      (guard : ℕ) → touches o n guard ≡ true → (v : ℕ) × Contains grips (grip guard v)

  -- while a pass of the number has these guards locked, no note of another pass touches one of them from the version on
  -- at which it was locked
  abbrev pub ShutBy : (N → ℕ) → ℕ → List N → List Grip → Type 0
  ShutBy author number xs grips =
      All (λ k. OnlyBy (touching touches o k.guard) author number xs k.version) grips
