-- The rule of the table: what holds of its words, its slot and what its seats know.
use Rattle.std.specs.Prelude.{◌≡◌, ◌⊎◌, ℕ, ◌+◌, ◌*◌, ◌<◌, ◌≤◌, Bool, List, [], ◌∷◌, length, All, Contains, sum_by}
use Rattle.std.specs.Prelude.{Option, Some}
use mathlib.Core.Option.{none, some}
use mathlib.Core.Option as maybe
use mathlib.Core.List.{IsPrefix}
use lib.ListN.{get_elem?}
use Rattle.atomic_table.specs.Table.{State}
use Rattle.ra_turn.specs.declared.sight.Part.{Part}
use Rattle.ra_turn.specs.declared.sight.Sight.{Sight}
use Rattle.ra_turn.specs.declared.sight.Stage.TheVariants.{Maker}
use Rattle.ra_turn.specs.Notes.{by}
use Rattle.ra_turn.specs.Stages.{IsLive, IsPass, HasTicket, IsServed, HasSlot, counted_by}
use Rattle.ra_turn.specs.Locks.{Locks}

-- The state that all seats refer to: the words, the history, and two maps, from a ticket and from a pass's number to
-- the seat that has it
pub record Scene (N : Type 0) : Type 0 where
  pub ticket : ℕ
  pub serving : ℕ
  pub history : List N
  pub given : ℕ
  pub queue : ℕ → ℕ
  pub owner : ℕ → ℕ

abbrev pub left_of_sight : {N O : Type 0} → Sight N O → ℕ
left_of_sight v = v.left

-- What the seat i knows of a number: its `seen` is a prefix of the history, and its own notes are the history's notes
-- by this number
pub record Fits {N : Type 0} (author : N → ℕ) (history : List N) (given : ℕ) (owner : ℕ → ℕ) (i : ℕ)
    (p : Part N) : Type 0 where
  pub below : p.number < given
  pub owned : owner p.number ≡ i
  pub seen : IsPrefix p.seen history
  pub mine : by author p.number history ≡ p.mine
  pub own_seen : by author p.number p.seen ≡ p.mine

-- a view of a pass that has the number
abbrev pub HasNumber : {N O : Type 0} → ℕ → Sight N O → Type 0
HasNumber {N} n v = IsPass v.stage × ((p : Part N) × Contains (v.own ∷ v.joined) p × (p.number ≡ n))

-- a view that has the ticket
abbrev pub AtTicket : {N O : Type 0} → ℕ → Sight N O → Type 0
AtTicket t v = HasTicket v.stage × (v.at ≡ t)

-- the seat i is the first one, and keeps the turns, t for each, of the numbers that it hasn't given out
pub record IsMakers {N O : Type 0} (passes turns given i t : ℕ) (v : Sight N O) : Type 0 where
  pub seat : i ≡ 0
  pub turns_each : t ≡ turns
  pub numbers : v.at ≡ given
  pub left : v.left + given * t ≡ passes * t

-- What the seat i knows, if its view is v
pub record Knows {V N O : Type 0} (author : N → ℕ) (passes turns : ℕ) (o : O) (c : Scene N)
    (homes : List (maybe.Option (Option V))) (i : ℕ) (v : Sight N O) : Type 0 where
  -- if it is the maker's seat
  pub maker : (t : ℕ) → v.stage ≡ Maker t → IsMakers passes turns c.given i t v
  pub opened : IsLive v.stage → v.opened ≡ Some o
  pub parts : IsPass v.stage → All (Fits author c.history c.given c.owner i) (v.own ∷ v.joined)
  -- it has a ticket of its own, at least the one that is served and below the next one
  pub ticket : HasTicket v.stage → (c.serving ≤ v.at) × (v.at < c.ticket) × (c.queue v.at ≡ i)
  pub served : IsServed v.stage → v.at ≡ c.serving
  pub whole : HasSlot v.stage → v.own.seen ≡ c.history
  pub away : HasSlot v.stage → homes ≡ none ∷ []

-- the slot has a value whose notes are the history, and there are at most as many notes as turns that have ended
pub record AtHome {V N O : Type 0} (opening : V → O) (notes : V → List N) (o : O) (history : List N)
    (serving : ℕ) (homes : List (maybe.Option (Option V))) (x : V) : Type 0 where
  pub here : homes ≡ some (Some x) ∷ []
  pub same : notes x ≡ history
  pub opened : opening x ≡ o
  pub few : length history ≤ serving

-- the seat j, whose ticket is served, has the value of the slot. It may have counted one note more
pub record OutWith {V N O : Type 0} (history : List N) (serving : ℕ)
    (homes : List (maybe.Option (Option V))) (views : List (Sight N O)) (j : ℕ) (v : Sight N O) :
    Type 0 where
  pub out : homes ≡ none ∷ []
  pub seat : get_elem? views j ≡ some v
  pub has : HasSlot v.stage
  pub few : length history ≤ serving + counted_by v.stage

module _ {V N O : Type 0} (opening : V → O) (notes : V → List N) (author : N → ℕ) (passes turns : ℕ)
    (o : O) where
  abbrev pub Slot : List N → ℕ → List (maybe.Option (Option V)) → List (Sight N O) → Type 0
  Slot history serving homes views =
      ((x : V) × AtHome opening notes o history serving homes x)
      ⊎ ((j : ℕ) × (v : Sight N O) × OutWith history serving homes views j v)

  -- The words are those of the scene, and after them come the guards' words
  pub record Kept (c : Scene N) (guard_words : List ℕ) (s : State (Option V) (Sight N O)) : Type 0
    where
      pub words : s.words ≡ c.ticket ∷ c.serving ∷ length c.history ∷ guard_words
      pub order : c.serving ≤ c.ticket
      pub turns_left : c.ticket + sum_by left_of_sight s.views ≤ passes * turns
      -- each ticket from the one that is served to the last one drawn is in the view of its seat, so no ticket is lost
      -- before the next one is served
      pub waits : (t : ℕ) → c.serving ≤ t → t < c.ticket
          → (v : Sight N O) × AtTicket t v × (get_elem? s.views (c.queue t) ≡ some v)
      pub numbers : c.given ≤ passes
      -- each number that was given out is in the view of its seat
      pub given_out : (n : ℕ) → n < c.given
          → (v : Sight N O) × HasNumber n v × (get_elem? s.views (c.owner n) ≡ some v)
      -- there is no note by a number that wasn't given out
      pub unheard : (n : ℕ) → c.given ≤ n → by author n c.history ≡ []
      pub slot : Slot c.history c.serving s.homes s.views
      pub each : (i : ℕ) (v : Sight N O) → get_elem? s.views i ≡ some v
          → Knows author passes turns o c s.homes i v

module _ {V N O : Type 0} (opening : V → O) (notes : V → List N) (author : N → ℕ)
    (touches : O → N → ℕ → Bool) (passes turns guards : ℕ) (o : O) where
  -- The rule: there is one history, and the guards' words agree with it
  pub record Ruled (s : State (Option V) (Sight N O)) : Type 0 where
    pub scene : Scene N
    pub guard_words : List ℕ
    pub kept : Kept opening notes author passes turns o scene guard_words s
    pub locks : Locks author touches o guards scene.history guard_words s.views

abbrev pub nothing : {N : Type 0} → ℕ → Part N
nothing n = record { number = n; seen = []; mine = [] }

-- the view of the maker's seat at the start
abbrev pub maker : {N O : Type 0} → ℕ → ℕ → O → Sight N O
maker passes turns o =
    record {
      opened = Some o;
      stage = Maker turns;
      at = 0;
      left = passes * turns;
      own = nothing 0;
      joined = [];
      grips = [];
      news = [];
    }
