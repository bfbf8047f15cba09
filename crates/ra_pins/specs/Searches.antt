-- What the search for the pinned processes knows, and what a look and a pass do to it.
use Rattle.std.specs.Prelude.{◌≡◌, ◌≢◌, ℕ, ◌+◌, ◌<◌, ◌≤◌, Bool, true, false, List, length, slice_index_or, slice_set}
use Rattle.ra_base.specs.Sums.{count}
use Rattle.ra_base.specs.declared.ids.Machine.{Machine}
use Rattle.ra_model.specs.declared.raw.Tables.{Tables}
use Rattle.ra_model.specs.Numbers.{machine_count, process_count, service_of}
use Rattle.ra_model.specs.Assignments.{machine_at}
use Rattle.ra_pins.specs.Pinned.{is_pinned}
use Rattle.ra_pins.specs.PinLists.{flag_at}
use Rattle.ra_pins.specs.Loads.{AreKept, AddsRow}
use Rattle.ra_pins.specs.declared.tables.Columns.TheVariants.{Others}
use Rattle.ra_pins.specs.Marks.{AreTouched, AreMarksOfFlagged}
use Rattle.ra_pins.specs.Walks.{spot, blocked_at, AreWalked, IsWalk}
use Rattle.ra_pins.specs.declared.search.Search.{Search}

-- only pinned processes are flagged
pub record AreFlagsOfPinned (i : Tables) (a0 : List Machine) (flags : List Bool) : Type 0 where
  pub one_each : length flags ≡ process_count i
  pub each : (p : ℕ) → p < process_count i → flag_at flags p ≡ true → is_pinned i a0 p ≡ true

-- what holds at all times during the search
pub record IsSearch (i : Tables) (a0 : List Machine) (s : Search) : Type 0 where
  pub flags : AreFlagsOfPinned i a0 s.flags.items
  pub kept : AreKept i a0 (flag_at s.flags.items) s.kept.items
  pub places : AreWalked i a0 s.flags.items s.places.items
  pub fuller : length s.fuller.items ≡ machine_count i
  pub touched : AreTouched i s.flags.items s.touched.items
  pub marks : AreMarksOfFlagged i a0 s.flags.items s.marks.items

-- the machine that process p looks at
unfoldable pub looks_at : Tables → List Machine → List ℕ → ℕ → ℕ
looks_at i a0 places p = spot (machine_count i) (machine_at a0 p) (slice_index_or places p 0)

-- process p may rest: it is flagged, or a process of the machine that it looks at was flagged in pass t or later, or it
-- isn't blocked from that machine
pub record Rests (i : Tables) (a0 : List Machine) (s : Search) (t p : ℕ) : Type 0 where
  pub within : flag_at s.flags.items p ≡ false
      → slice_index_or s.fuller.items (looks_at i a0 s.places.items p) 0 < t
      → slice_index_or s.places.items p 0 < machine_count i
  pub free : flag_at s.flags.items p ≡ false
      → slice_index_or s.fuller.items (looks_at i a0 s.places.items p) 0 < t
      → blocked_at i a0 s.flags.items p (slice_index_or s.places.items p 0) ≡ false

-- no process was flagged in pass t or later
pub record IsBefore (i : Tables) (s : Search) (t : ℕ) : Type 0 where
  pub each : (m : ℕ) → m < machine_count i → slice_index_or s.fuller.items m 0 < t

-- how many processes are flagged
unfoldable pub flag_count : Tables → Search → ℕ
flag_count i s = count (process_count i) (flag_at s.flags.items)

-- between pass t and pass t + 1: no process was flagged after pass t, and each process may rest unless pass t flagged
-- one on the machine that it looks at
pub record IsBetweenPasses (i : Tables) (a0 : List Machine) (s : Search) (t : ℕ) : Type 0 where
  pub search : IsSearch i a0 s
  pub before : IsBefore i s (t + 1)
  pub rests : (p : ℕ) → p < process_count i → Rests i a0 s t p

-- process p has gone on to a place
pub record HasWalked (i : Tables) (a0 : List Machine) (old new : Search) (p place : ℕ) : Type 0
  where
    pub search : IsSearch i a0 new
    pub walk : IsWalk i a0 old.flags.items p (slice_index_or old.places.items p 0) place
    pub flags : new.flags ≡ old.flags
    pub fuller : new.fuller ≡ old.fuller
    pub places : new.places.items ≡ slice_set old.places.items p place

-- process p, which starts on machine `home`, was flagged in a pass
pub record IsFlagged (i : Tables) (old new : Search) (p home pass : ℕ) : Type 0 where
  pub flags : new.flags.items ≡ slice_set old.flags.items p true
  pub touched : new.touched.items ≡ slice_set old.touched.items (service_of i p) true
  pub fuller : new.fuller.items ≡ slice_set old.fuller.items home pass
  pub kept : AddsRow i Others p home old.kept.items new.kept.items
  pub places : new.places ≡ old.places
  pub marks : new.marks ≡ old.marks

-- process p has looked again in pass t + 1, and was flagged or not
pub record HasLooked (i : Tables) (a0 : List Machine) (old new : Search) (t p : ℕ) (flagged : Bool)
    : Type 0 where
  pub search : IsSearch i a0 new
  pub before : IsBefore i old (t + 2) → IsBefore i new (t + 2)
  pub others : (u q : ℕ) → u ≤ t + 1 → q < process_count i → q ≢ p → Rests i a0 old u q
      → Rests i a0 new u q
  pub rests : Rests i a0 old t p → Rests i a0 new (t + 1) p
  pub more : flagged ≡ true → flag_count i new ≡ flag_count i old + 1
  pub same : flagged ≡ false → flag_count i new ≡ flag_count i old
  pub quiet : flagged ≡ false → new.fuller ≡ old.fuller

-- the first n processes have looked in pass t + 1, and some was flagged or not
pub record IsWithin (i : Tables) (a0 : List Machine) (old new : Search) (t n : ℕ) (flagged : Bool) :
    Type 0 where
  pub search : IsSearch i a0 new
  pub before : IsBefore i new (t + 2)
  pub done : (q : ℕ) → q < process_count i → q < n → Rests i a0 new (t + 1) q
  pub to_come : (q : ℕ) → q < process_count i → n ≤ q → Rests i a0 new t q
  pub grown : flag_count i old ≤ flag_count i new
  pub more : flagged ≡ true → flag_count i old + 1 ≤ flag_count i new
  pub quiet : flagged ≡ false → new.fuller ≡ old.fuller
