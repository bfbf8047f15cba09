-- What a clause says of a pass and of its lock.
use Rattle.std.specs.Prelude.{◌≡◌, ◌⊎◌, ℕ, ◌<◌, ◌≤◌, List, [], ◌∷◌, ◌++◌, length, slice_index_or, All, Contains, Option}
use Rattle.std.specs.Prelude.{Some, None}
use mathlib.Core.List.{IsPrefix}
use Rattle.ra_turn.specs.declared.story.Story.{Ghosts}
use Rattle.ra_turn.specs.declared.guards.Hold.{Hold}
use Rattle.ra_turn.specs.declared.guards.Hold.TheVariants.{Held, Newer}
use Rattle.ra_turn.specs.declared.pass.Pass.{Pass}
use Rattle.ra_turn.specs.declared.turn.Turn.{Turn}
use Rattle.ra_turn.specs.declared.sight.Stage.TheVariants.{Maker, Idle, InTurn}
use Rattle.ra_turn.specs.declared.sight.Sight.{Sight}
use Rattle.atomic_table.specs.declared.shared.Seat.{Seat}
use Rattle.ra_turn.specs.declared.sight.Grip.{Grip}
use Rattle.ra_turn.specs.Views.{view, slots}
use Rattle.ra_turn.specs.Holds.{IsLastTold}
use Rattle.ra_turn.specs.Notes.{by, grip, touching, IsVersion, IsNews, HoldsAll, ShutBy}

-- P holds of each element and its place
abbrev pub EachAt : {X : Type 0} → (ℕ → X → Type 0) → List X → Type 0
EachAt {X} P xs = (n : ℕ) (d : X) → n < length xs → P n (slice_index_or xs n d)

-- the opening of the value that the lock protects
abbrev pub opening_of : {V N O : Type 0} → (V → O) → Turn V N O → O
opening_of opening t = opening t.table.shared.key.start.value

-- how many passes the lock has
abbrev pub passes_of : {V N O : Type 0} → Turn V N O → ℕ
passes_of t = t.table.shared.key.passes

-- how many turns each of them gets
abbrev pub turns_of_each : {V N O : Type 0} → Turn V N O → ℕ
turns_of_each t = t.table.shared.key.turns

-- how many guards it has
abbrev pub guards_of : {V N O : Type 0} → Turn V N O → ℕ
guards_of t = t.table.shared.key.guards

-- the seat off which n passes were split
abbrev pub IsMaker : {V N O : Type 0} → (V → O) → Turn V N O → ℕ → ℕ → Seat (Option V) (Sight N O)
    → Type 0
IsMaker opening t turns n s =
    (s.table_id ≡ t.table.shared.table_id) × ((view s.me).stage ≡ Maker turns)
    × ((view s.me).at ≡ n) × ((view s.me).opened ≡ Some (opening_of opening t))

module _ {V N O : Type 0} {g : Ghosts V N O} where
  -- the notes that the pass has seen
  abbrev pub seen_by : Pass V N O g → List N
  seen_by p = (view p.seat.me).own.seen

  -- the notes that the pass has made
  abbrev pub notes_made_by : Pass V N O g → List N
  notes_made_by p = (view p.seat.me).own.mine

  -- the guards that the pass has locked, each with the version at which it was locked, in ascending order
  abbrev pub grips_of : Pass V N O g → List Grip
  grips_of p = (view p.seat.me).grips

  -- the guards whose versions the pass was told: at its next take it sees the note before each version
  abbrev pub news_of : Pass V N O g → List Grip
  news_of p = (view p.seat.me).news

  -- the pass is one of this lock
  abbrev pub IsPassOf : Turn V N O → Pass V N O g → Type 0
  IsPassOf t p =
      (p.seat.table_id ≡ t.table.shared.table_id)
      × ((view p.seat.me).opened ≡ Some (opening_of g.opening t))

  -- the pass is outside its turns
  abbrev pub IsIdle : Pass V N O g → Type 0
  IsIdle p = ((view p.seat.me).stage ≡ Idle) × (slots p.seat.me ≡ [])

  -- the pass is in its critical section, and has taken the value
  abbrev pub IsInTurn : Pass V N O g → Type 0
  IsInTurn p = ((view p.seat.me).stage ≡ InTurn) × (slots p.seat.me ≡ (0, None) ∷ [])

  -- the pass is one of this lock, and outside its turns
  abbrev pub IsReady : Turn V N O → Pass V N O g → Type 0
  IsReady t p = IsPassOf t p × IsIdle p

  -- the pass n as `Turn::make` gives it
  pub record IsNewPass (t : Turn V N O) (turns n : ℕ) (p : Pass V N O g) : Type 0 where
    pub of : IsPassOf t p
    pub idle : IsIdle p
    pub number : p.number ≡ n
    pub left : p.left ≡ turns
    pub seen : seen_by p ≡ []
    pub made : notes_made_by p ≡ []
    pub grips : grips_of p ≡ []

  -- The notes xs are those that the pass has seen, or these and one more by its number, and the pass has locked each
  -- guard that this note touches
  abbrev pub IsSeenOrNext : O → Pass V N O g → List N → Type 0
  IsSeenOrNext o p xs =
      (xs ≡ seen_by p)
      ⊎ ((n : N) × (xs ≡ seen_by p ++ n ∷ []) × (g.author n ≡ p.number)
      × HoldsAll g.touches o (grips_of p) n)

  -- No other pass's note that the pass has seen touches a guard that it has locked, from the version on at which it was
  -- locked
  abbrev pub Shut : Turn V N O → Pass V N O g → Type 0
  Shut t p = ShutBy g.touches (opening_of g.opening t) g.author p.number (seen_by p) (grips_of p)

  -- The next take of the pass shows a note at the place before the version, which touches the guard
  abbrev pub WillSee : Pass V N O g → ℕ → ℕ → Type 0
  WillSee p guard version = Contains (news_of p) (grip guard version)

  -- what the pass was told that it will see is in what it has seen
  abbrev pub SeesNews : Turn V N O → Pass V N O g → Type 0
  SeesNews t p =
      (guard version : ℕ) → WillSee p guard version
      → IsNews g.touches (opening_of g.opening t) (seen_by p) (grip guard version)

  -- the guard has this version in what the pass has seen
  abbrev pub HasVersion : Turn V N O → Pass V N O g → ℕ → ℕ → Type 0
  HasVersion t p guard version =
      IsVersion (touching g.touches (opening_of g.opening t) guard) (seen_by p) version

  -- it has the same guards locked, and was told the same
  abbrev pub HoldsSame : Pass V N O g → Pass V N O g → Type 0
  HoldsSame p q = (grips_of q ≡ grips_of p) × (news_of q ≡ news_of p)

  -- it has seen and made the same notes, and has as many turns left
  abbrev pub KnowsSame : Pass V N O g → Pass V N O g → Type 0
  KnowsSame p q = (seen_by q ≡ seen_by p) × (notes_made_by q ≡ notes_made_by p) × (q.left ≡ p.left)

  -- two views are of one pass of one lock
  abbrev pub IsSamePass : Pass V N O g → Pass V N O g → Type 0
  IsSamePass p q =
      (q.seat.table_id ≡ p.seat.table_id) × (q.seat.id ≡ p.seat.id) × (q.number ≡ p.number)
      × ((view q.seat.me).opened ≡ (view p.seat.me).opened)

  -- the pass n as `Turn::close` needs it
  pub record IsDone (t : Turn V N O) (n : ℕ) (p : Pass V N O g) : Type 0 where
    pub of : IsPassOf t p
    pub idle : IsIdle p
    pub number : p.number ≡ n
    pub grips : grips_of p ≡ []

  -- what the pass has seen is a prefix of the notes xs, whose notes by the pass are exactly those that it made
  abbrev pub IsPartOf : List N → Pass V N O g → Type 0
  IsPartOf xs p = IsPrefix (seen_by p) xs × (by g.author p.number xs ≡ notes_made_by p)

  -- the seat of a pass, to which the passes ps were joined
  pub record IsJoined (t : Turn V N O) (ps : List (Pass V N O g)) (s : Seat (Option V) (Sight N O))
      : Type 0 where
    pub table : s.table_id ≡ t.table.shared.table_id
    pub idle : (view s.me).stage ≡ Idle
    pub empty : (view s.me).grips ≡ []
    pub parts :
        All
        (λ (p : Pass V N O g).
        Contains ((view s.me).own ∷ (view s.me).joined) (view p.seat.me).own)
        ps

  -- If `Turn::hold` answers Held: the pass has locked the guard as well, at a version of at most the one asked for.
  -- This is the guard's version in what the pass has seen, if the pass has seen so much, and the next take shows the
  -- note before it
  pub record IsGripped (t : Turn V N O) (p q : Pass V N O g) (guard asked at : ℕ) : Type 0 where
    pub within : at ≤ asked
    pub grips : grips_of q ≡ grips_of p ++ grip guard at ∷ []
    pub shut : Shut t q
    pub version : at ≤ length (seen_by q) → HasVersion t q guard at
    pub news : 0 < at → WillSee q guard at

  -- if `Turn::hold` answers Newer: the guard's version, which is the latest news of the pass, is above the one asked
  -- for; the pass has the same guards locked, and the next take shows the note before the version
  pub record IsNewer (p q : Pass V N O g) (guard asked at : ℕ) : Type 0 where
    pub above : asked < at
    pub grips : grips_of q ≡ grips_of p
    pub news : WillSee q guard at
    pub told : IsLastTold (news_of p) (news_of q) guard at

  -- what `Turn::hold` answers
  abbrev pub IsHoldAnswer : Turn V N O → Pass V N O g → Pass V N O g → ℕ → ℕ → Hold → Type 0
  IsHoldAnswer t p q guard asked (Held at) = IsGripped t p q guard asked at
  IsHoldAnswer t p q guard asked (Newer at) = IsNewer p q guard asked at
