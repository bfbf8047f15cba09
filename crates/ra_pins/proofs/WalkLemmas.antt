-- The circle of machines, and how a process goes on in it.
use Rattle.std.proofs.Common.{inl, inr, ◌≡◌, ◌≢◌, ℕ, ◌+◌, ◌-◌, ◌<◌, ◌≤◌, Bool, true, false, List, length, get_or, set}
use Rattle.std.proofs.Common.{sym, ap, ◌∙◌, arith, length-set, get_or-set_same, get_or-set_other}
use Rattle.std.proofs.lemmas.Bool.{cases_eq, cases_lt, lt-ltb, le-ltb}
use Rattle.std.proofs.lemmas.List.{get_or_read}
use Rattle.ra_base.specs.declared.ids.Machine.{Machine}
use Rattle.ra_model.specs.declared.raw.Tables.{Tables}
use Rattle.ra_model.specs.Numbers.{machine_count, process_count}
use Rattle.ra_model.specs.Assignments.{IsAssignment, machine_at}
use Rattle.ra_pins.specs.Pinned.{blocked, stuck}
use Rattle.ra_pins.specs.PinLists.{flag_at}
use Rattle.ra_pins.specs.Walks.{spot, blocked_at, HasWalkedTo, AreWalked, IsWalk}
use Rattle.ra_pins.specs.Searches.{looks_at}
use Rattle.ra_pins.proofs.RoundLemmas.{BelowAt, blocked_more, stuck_from, stuck_blocked}

module _ (machines home : ℕ) where
  module _ (place : ℕ) where
    spot_ahead : home + place < machines → spot machines home place ≡ home + place
    unfolding spot
    spot_ahead e = grind (arith, lt-ltb)

    spot_round : machines ≤ home + place → spot machines home place ≡ (home + place) - machines
    unfolding spot
    spot_round e = grind (arith, le-ltb)

    pub spot_within : home < machines → place ≤ machines → spot machines home place < machines
    spot_within h few = grind (arith, spot_ahead, spot_round)

    -- no place of the circle but the last is the home
    pub spot_away : home < machines → 1 ≤ place → place < machines → spot machines home place ≢ home
    spot_away h some few same = grind (arith, spot_ahead, spot_round)

  -- each other machine has a place
  pub spot_of : (m : ℕ) → home < machines → m < machines → m ≢ home → (j : ℕ) × (1 ≤ j) × (j < machines)
      × (spot machines home j ≡ m)
  spot_of m h m_in apart = elim (cases_lt home m) [
    | inl after ↦ (
      m - home,
      omega arith,
      omega arith,
      spot_ahead (m - home) (omega arith)
          ∙ omega arith,
    )
    | inr before ↦ (
      (m + machines) - home,
      omega (arith, apart),
      omega (arith, apart),
      spot_round ((m + machines) - home) (omega arith) ∙ omega arith,
    )
  ]

module _ (i : Tables) (a0 : List Machine) (flags : List Bool) (p : ℕ) where
  module _ (place : ℕ) (fits : IsAssignment i a0) (h : p < process_count i) where
    -- blocked from each place of the circle: blocked from every other machine
    pub round_stuck_all : machine_count i ≤ place → HasWalkedTo i a0 flags p place → stuck i a0 (flag_at flags) p ≡ true
    unfolding blocked_at
    round_stuck_all end come = stuck_from i a0 _ p (λ m m_in apart.
        let at = spot_of _ _ m (fits.in_range p h) m_in apart in
        ap (blocked i a0 (flag_at flags) p) (sym at.3) ∙ come.behind at.0 at.1 (omega (arith, at.2, end)))

    -- a process that isn't blocked from a place isn't stuck
    pub free_unstuck : 1 ≤ place → place < machine_count i → stuck i a0 (flag_at flags) p ≡ true →
        blocked_at i a0 flags p place ≡ true
    unfolding blocked_at
    free_unstuck some few shut = grind (arith, stuck_blocked, spot_within, spot_away)

  pub come_on : (from to : ℕ) → HasWalkedTo i a0 flags p from → IsWalk i a0 flags p from to →
      HasWalkedTo i a0 flags p to
  come_on from to come walk = record {
    some = omega (arith, come.some, walk.onward);
    within = walk.within;
    behind = λ j some before. elim (cases_lt j from) [
      | inl early ↦ come.behind j some early
      | inr late ↦ walk.behind j late before
    ];
  }

module _ (i : Tables) (a0 : List Machine) where
  -- one place is set
  pub walked_set : (flags : List Bool) (places : List ℕ) (p place : ℕ) → AreWalked i a0 flags places →
      HasWalkedTo i a0 flags p place → AreWalked i a0 flags (set places p place)
  walked_set flags places p place walked come = record {
    one_each = length-set places p place ∙ walked.one_each;
    each = λ q h. elim (cases_eq q p) [
      | inl here ↦ rw here (place_set i a0 flags places p place (omega (arith, ap (λ k. k) here, walked.one_each)) come)
      | inr apart ↦ rw (get_or-set_other places p q place 0 apart) (walked.each q h)
    ];
  }
    where
      place_set : (i : Tables) (a0 : List Machine) (flags : List Bool) (places : List ℕ) (p place : ℕ) →
          p < length places → HasWalkedTo i a0 flags p place → HasWalkedTo i a0 flags p
          (get_or (set places p place) p 0)
      place_set i a0 flags places p place within come = rw (get_or-set_same places p place 0 within) come

  module _ (old new : List Bool) where
    -- more flags: a process that has come to a place has still come there
    pub come_more : (p place : ℕ) → ((m : ℕ) → BelowAt i a0 m (flag_at old) (flag_at new)) →
        HasWalkedTo i a0 old p place → HasWalkedTo i a0 new p place
    unfolding blocked_at
    come_more p place below come = record {
      some = come.some;
      within = come.within;
      behind = λ j some before. blocked_more i a0 p _ _
          _
          (below (spot (machine_count i) (machine_at a0 p) j)) (come.behind j some before);
    }

    pub walked_more : (places : List ℕ) → ((m : ℕ) → BelowAt i a0 m (flag_at old) (flag_at new)) →
        AreWalked i a0 old places → AreWalked i a0 new places
    walked_more places below walked = record {
      one_each = walked.one_each;
      each = λ p h. come_more p _ below (walked.each p h);
    }

  -- what is read at the machine that a process looks at
  pub looks_read : (places numbers : List ℕ) (p home place at v machines : ℕ) → machine_at a0 p ≡ home →
      machines ≡ machine_count i → p < length places → place ≡ get_or places p place → at ≡ spot machines home place →
      at < length numbers → v ≡ get_or numbers at v → get_or numbers (looks_at i a0 places p) 0 ≡ v
  unfolding looks_at
  looks_read places numbers p home place at v machines home_is machines_is place_in read at_is at_in v_is =
      grind (arith, get_or_read)

  module _ (flags : List Bool) (p : ℕ) where
    -- what is asked of the machine of a place
    pub blocked_read : (home place m machines : ℕ) (b : Bool) → b ≡ blocked i a0 (flag_at flags) p m →
        m ≡ spot machines home place → machines ≡ machine_count i → machine_at a0 p ≡ home →
        b ≡ blocked_at i a0 flags p place
    unfolding blocked_at
    blocked_read home place m machines b is at all starts = grind arith

    pub behind_more : (from place j : ℕ) → ((k : ℕ) → from ≤ k → k < place → blocked_at i a0 flags p k ≡ true) →
        blocked_at i a0 flags p place ≡ true → from ≤ j → j < place + 1 → blocked_at i a0 flags p j ≡ true
    behind_more from place j behind last from_on before = grind arith

    pub walk_found : (from place : ℕ) → from ≤ place → place < machine_count i →
        ((k : ℕ) → from ≤ k → k < place → blocked_at i a0 flags p k ≡ true) → blocked_at i a0 flags p place ≡ false →
        IsWalk i a0 flags p from place
    walk_found from place onward few behind last = record {
      onward = onward;
      within = omega arith;
      behind = behind;
      free = λ h. last;
    }
