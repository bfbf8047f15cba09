-- What each step tells its seat.
use Rattle.std.specs.Prelude.{◌≡◌, ℕ, zero, suc, ◌+◌, ◌-◌, ◌*◌, ◌/◌, ◌%◌, ◌<◌, ◌≤◌, ◌^◌, ◌==◌, Bool, cond, All, List}
use Rattle.std.specs.Prelude.{[], ◌∷◌, ◌++◌, length, MatchBool, Option, Some, None}
use mathlib.Core.Option.{some}
use mathlib.Core.List.{IsPrefix}
use Rattle.atomic_table.specs.Table.{Me, Step}
use Rattle.ra_turn.specs.Views.{view, slots}
use Rattle.ra_turn.specs.declared.sight.Sight.{Sight}
use Rattle.ra_turn.specs.declared.sight.Stage.{Stage}
use Rattle.ra_turn.specs.declared.sight.Stage.TheVariants.{Maker, Spent, Idle, Drawn, Called, InTurn, Counted}
use Rattle.ra_turn.specs.declared.sight.Grip.{Grip}
use Rattle.ra_turn.specs.Notes.{by, grip, without, touching, IsVersion, IsNews, HoldsAll, ShutBy}
use Rattle.ra_turn.specs.Law.{nothing}

-- how many turns the maker's seat gives to each pass
abbrev pub turns_of : Stage → ℕ
turns_of (Maker turns) = turns
turns_of _ = 0

-- the versions that a pass was told of, after it read a guard's word: version 0 means that no note touches the guard,
-- and an odd word tells no version
abbrev pub at_version : ℕ → ℕ → List Grip → List Grip
at_version guard zero ks = ks
at_version guard (suc v) ks = grip guard (suc v) ∷ ks

abbrev pub heard : ℕ → ℕ → List Grip → List Grip
heard guard word ks = cond (word % 2 == 0) (at_version guard (word / 2) ks) ks

module _ {N O : Type 0} where
  abbrev pub with_stage : Sight N O → Stage → Sight N O
  with_stage v stage = record v { stage = stage }

  -- the pass has seen these notes
  abbrev pub with_seen : (N → ℕ) → Sight N O → Stage → List N → Sight N O
  with_seen author v stage xs =
      record v {
        stage = stage;
        own = record { number = v.own.number; seen = xs; mine = by author v.own.number xs };
      }

  -- the pass has a ticket, and a turn less
  abbrev pub with_ticket : Sight N O → ℕ → Sight N O
  with_ticket v n = record v { stage = Drawn; at = n; left = v.left - 1 }

  abbrev pub with_grips : Sight N O → List Grip → Sight N O
  with_grips v ks = record v { grips = ks }

  abbrev pub with_news : Sight N O → List Grip → Sight N O
  with_news v ks = record v { news = ks }

  -- the pass is in its critical section, no other was joined to it, and it has seen this number of notes
  pub record IsInTurnAt (v : Sight N O) (seen : ℕ) : Type 0 where
    pub stage : v.stage ≡ InTurn
    pub alone : length v.joined ≡ 0
    pub count : length v.own.seen ≡ seen

  -- no other's note that the view has seen touches a guard that it has locked
  abbrev pub IsShut : (N → ℕ) → (O → N → ℕ → Bool) → Sight N O → Type 0
  IsShut author touches v =
      (o : O) → v.opened ≡ Some o → ShutBy touches o author v.own.number v.own.seen v.grips

  -- a version within what the view has seen is the guard's version in it
  abbrev pub IsCurrent : (O → N → ℕ → Bool) → Sight N O → ℕ → ℕ → Type 0
  IsCurrent touches v guard version =
      (o : O) → v.opened ≡ Some o → version ≤ length v.own.seen
      → IsVersion (touching touches o guard) v.own.seen version

  -- what the view was told of is in what it has seen
  abbrev pub IsTold : (O → N → ℕ → Bool) → Sight N O → Type 0
  IsTold touches v = (o : O) → v.opened ≡ Some o → All (IsNews touches o v.own.seen) v.news

  -- the maker's view without one number, and the new pass's view
  abbrev pub cut_left : Sight N O → Sight N O
  cut_left v = record v { at = v.at + 1; left = v.left - turns_of v.stage }

  abbrev pub cut_right : Sight N O → Sight N O
  cut_right v =
      record {
        opened = v.opened;
        stage = Idle;
        at = 0;
        left = turns_of v.stage;
        own = nothing v.at;
        joined = [];
        grips = [];
        news = [];
      }

  -- two passes as one, and what is left of the second
  abbrev pub passes_joined : Sight N O → Sight N O → Sight N O
  passes_joined v w = record v { left = v.left + w.left; joined = v.joined ++ w.own ∷ w.joined }

  abbrev pub spent : Sight N O
  spent =
      record {
        opened = None;
        stage = Spent;
        at = 0;
        left = 0;
        own = nothing 0;
        joined = [];
        grips = [];
        news = [];
      }

module _ {V N O : Type 0} where
  -- the seat learns how far the turns are, and nothing changes
  abbrev pub peeked : Step (Option V) → Me (Option V) (Sight N O) → ℕ → Me (Option V) (Sight N O)
      → Type 0
  peeked s m n m' = (m' ≡ m) × (n < 2 ^ 62)

  -- a ticket is drawn exactly if the word was as expected, and it is the word that was found
  abbrev pub ticket_drawn : Step (Option V) → Me (Option V) (Sight N O) → ℕ → Me (Option V) (Sight N O)
      → Type 0
  ticket_drawn s m n m' = MatchBool (n == s.first) (m' ≡ (with_ticket (view m) n, slots m)) (m' ≡ m)

  -- a ticket is drawn, and it is the word that was found
  abbrev pub queued : Step (Option V) → Me (Option V) (Sight N O) → ℕ → Me (Option V) (Sight N O)
      → Type 0
  queued s m n m' = m' ≡ (with_ticket (view m) n, slots m)

  -- the pass's turn has come exactly if the word is its ticket
  abbrev pub looked : Step (Option V) → Me (Option V) (Sight N O) → ℕ → Me (Option V) (Sight N O)
      → Type 0
  looked s m n m' =
      MatchBool (n == (view m).at) (m' ≡ (with_stage (view m) Called, slots m)) (m' ≡ m)

  abbrev pub served : (N → ℕ) → (O → N → ℕ → Bool) → Step (Option V) → Me (Option V) (Sight N O) → ℕ
      → Me (Option V) (Sight N O) → Type 0
  served author touches s m n m' =
      (m' ≡ (with_stage (view m) Idle, [])) × IsShut author touches (view m)

  -- an even word is twice the version of a free guard
  abbrev pub glanced : Step (Option V) → Me (Option V) (Sight N O) → ℕ → Me (Option V) (Sight N O)
      → Type 0
  glanced s m n m' =
      (guard : ℕ) → s.word ≡ 3 + guard
      → m' ≡ (with_news (view m) (heard guard n (view m).news), slots m)

  -- the seat has locked the guard as well, at the version
  abbrev pub TookGuard : (N → ℕ) → (O → N → ℕ → Bool) → Me (Option V) (Sight N O)
      → Me (Option V) (Sight N O) → ℕ → ℕ → Type 0
  TookGuard author touches m m' guard v =
      (m' ≡ (with_grips (view m) ((view m).grips ++ grip guard v ∷ []), slots m))
      × IsShut author touches (view m') × IsCurrent touches (view m') guard v

  -- the guard is locked exactly if the word was as expected, which is twice its version
  abbrev pub gripped : (N → ℕ) → (O → N → ℕ → Bool) → Step (Option V) → Me (Option V) (Sight N O)
      → ℕ → Me (Option V) (Sight N O) → Type 0
  gripped author touches s m n m' = MatchBool (n == s.first)
      ((guard v : ℕ) → s.word ≡ 3 + guard → s.first ≡ 2 * v → TookGuard author touches m m' guard v)
      (m' ≡ m)

  -- the seat has unlocked the guard
  abbrev pub GaveGuard : (N → ℕ) → (O → N → ℕ → Bool) → Me (Option V) (Sight N O)
      → Me (Option V) (Sight N O) → ℕ → Type 0
  GaveGuard author touches m m' guard =
      (m' ≡ (with_grips (view m) (without guard (view m).grips), slots m))
      × IsShut author touches (view m')

  abbrev pub released : (N → ℕ) → (O → N → ℕ → Bool) → Step (Option V) → Me (Option V) (Sight N O)
      → ℕ → Me (Option V) (Sight N O) → Type 0
  released author touches s m n m' =
      (guard : ℕ) → s.word ≡ 3 + guard → GaveGuard author touches m m' guard

module _ {V N O : Type 0} (opening : V → O) (notes : V → List N) (author : N → ℕ) where
  -- the value in the slot: its opening, and its notes, of which those seen are a prefix and of which those by the pass
  -- are exactly those that it made
  pub record ShowsValue (m : Sight N O) (n : ℕ) (x : V) : Type 0 where
    pub opened : m.opened ≡ Some (opening x)
    pub seen : IsPrefix m.own.seen (notes x)
    pub mine : by author m.own.number (notes x) ≡ m.own.mine
    pub count : n ≡ length (notes x)
    pub small : n < 2 ^ 62

module _ {V N O : Type 0} (opening : V → O) (notes : V → List N) (author : N → ℕ)
    (touches : O → N → ℕ → Bool) where
  -- the value has one note more than the pass has seen, this note is the pass's own, and the pass has locked each guard
  -- that it touches
  pub record HasOneMore (m : Sight N O) (x : V) : Type 0 where
    pub note : N
    pub added : notes x ≡ m.own.seen ++ note ∷ []
    pub own : author note ≡ m.own.number
    pub opened : m.opened ≡ Some (opening x)
    pub held : HoldsAll touches (opening x) m.grips note

  -- the history is that of the value in the slot, which the pass now has
  abbrev pub saw : Step (Option V) → Me (Option V) (Sight N O) → ℕ → Me (Option V) (Sight N O)
      → Type 0
  saw s m n m' =
      (x : V) × ShowsValue opening notes author (view m) n x
      × (m' ≡ (with_seen author (view m) InTurn (notes x), (0, Some x) ∷ slots m))
      × IsShut author touches (view m') × IsTold touches (view m')

module _ {V N O : Type 0} (notes : V → List N) (author : N → ℕ) where
  -- the seat has seen the value's notes, and has counted its own
  abbrev pub HasCountedOwn : Me (Option V) (Sight N O) → Me (Option V) (Sight N O) → V → Type 0
  HasCountedOwn m m' x =
      (m' ≡ (with_seen author (view m) Counted (notes x), slots m)) × (length (notes x) < 2 ^ 62)

  -- the announced value's notes are the history, and the pass had seen all notes that it had made
  abbrev pub noted : Step (Option V) → Me (Option V) (Sight N O) → ℕ → Me (Option V) (Sight N O)
      → Type 0
  noted s m n m' =
      (by author (view m).own.number (view m).own.seen ≡ (view m).own.mine)
      × ((x : V) → s.said ≡ some (Some x) → HasCountedOwn m m' x)
