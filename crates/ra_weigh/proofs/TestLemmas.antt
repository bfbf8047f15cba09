-- What the values after a move say of each test.
use Rattle.std.proofs.Common.{◌≡◌, ◌≢◌, ℕ, ◌<◌, ◌≤◌, true, false, List, Some, None, arith, lt-ltb, le-ltb, eq-eqb}
use Rattle.std.proofs.lemmas.Bool.{and_from, and_left, and_right, not_from_true, not_from_false}
use Rattle.ra_base.specs.declared.ids.Machine.{Machine}
use Rattle.ra_base.specs.declared.causes.Cause.TheVariants.{Capacity, Transient, Conflict, Spread, Dependency, Closed}
use Rattle.ra_model.specs.declared.raw.Tables.{Tables}
use Rattle.ra_model.specs.Numbers.{transient_at, capacity_of, spread_of, need_of, neighbourhood_of, closed_at, service_of}
use Rattle.ra_model.specs.Assignments.{machine_at}
use Rattle.ra_model.specs.Usage.{use_of, transient_of}
use Rattle.ra_model.specs.Services.{is_of, of_service, on_machine, in_neighbourhood, locations_of, in_location}
use Rattle.ra_model.specs.Broken.{capacity_test, transient_test, conflict_test, spread_test, near_of, far_test, closed_test}
use Rattle.ra_model.proofs.BrokenLemmas.{failed_if, held_if}
use Rattle.ra_weigh.specs.declared.marks.Mark.{Mark}
use Rattle.ra_weigh.specs.declared.marks.Mark.TheVariants.{OnMachine, InLocation, InNeighbourhood}
use Rattle.ra_weigh.specs.Marks.{mark_of, has_mark, marked}

module _ (i : Tables) (a0 : List Machine) where
  module _ (b : List Machine) (m r : ℕ) where
    module _ {used cap : ℕ} (use_is : used ≡ transient_of i a0 b m r) (cap_is : cap ≡ capacity_of i m r) where
      -- transient use

      pub transient_over : transient_at i r ≡ true → cap < used →
          Some (Transient (record { 0 = m }) (record { 0 = r }) used cap) ≡ transient_test i a0 b m r
      unfolding transient_test
      transient_over twice over = grind (arith, failed_if, and_from, lt-ltb)

      pub transient_within : used ≤ cap → None ≡ transient_test i a0 b m r
      unfolding transient_test
      transient_within within = grind (arith, held_if, and_right, le-ltb)

    pub transient_once : transient_at i r ≡ false → None ≡ transient_test i a0 b m r
    unfolding transient_test
    transient_once once = held_if _ (and_left _ _ once)

module _ (i : Tables) {mark : Mark} (b : List Machine) (s : ℕ) where
  module _ (x : ℕ) {n : ℕ} where
    -- counts by their marks

    pub machine_marked : mark ≡ OnMachine → n ≡ on_machine i b s x → n ≡ marked i mark b s x
    unfolding marked on_machine has_mark mark_of
    machine_marked is count = rw is count

    pub location_marked : mark ≡ InLocation → n ≡ in_location i b s x → n ≡ marked i mark b s x
    unfolding marked in_location has_mark mark_of
    location_marked is count = rw is count

    pub neighbourhood_marked : mark ≡ InNeighbourhood → n ≡ in_neighbourhood i b s x → n ≡ marked i mark b s x
    unfolding marked in_neighbourhood has_mark mark_of
    neighbourhood_marked is count = rw is count

module _ (i : Tables) (s : ℕ) (mark : Mark) (x : ℕ) where
  module _ (p at u : ℕ) where
    pub of_other : u ≡ service_of i p → u ≢ s → 0 ≡ of_service i s (has_mark i mark x) p at
    unfolding of_service is_of has_mark
    of_other u_is other = grind arith

    module _ (k : ℕ) (u_is : u ≡ service_of i p) (same : u ≡ s) (k_is : k ≡ mark_of i mark at) where
      pub of_here : k ≡ x → 1 ≡ of_service i s (has_mark i mark x) p at
      unfolding of_service is_of has_mark
      of_here here = grind (arith, eq-eqb)

      pub of_elsewhere : k ≢ x → 0 ≡ of_service i s (has_mark i mark x) p at
      unfolding of_service is_of has_mark
      of_elsewhere apart = grind (arith, eq-eqb)

module _ (i : Tables) (b : List Machine) where
  module _ (m r used : ℕ) {cap : ℕ} (use_is : used ≡ use_of i b m r) (cap_is : cap ≡ capacity_of i m r) where
    -- capacity

    pub capacity_over : cap < used → Some (Capacity (record { 0 = m }) (record { 0 = r }) used cap) ≡
        capacity_test i b m r
    unfolding capacity_test
    capacity_over over = grind (arith, failed_if, lt-ltb)

    pub capacity_within : used ≤ cap → None ≡ capacity_test i b m r
    unfolding capacity_test
    capacity_within within =
        held_if _ (le-ltb (capacity_of i m r) (use_of i b m r) (omega arith))

  module _ (s : ℕ) where
    module _ (m : ℕ) {n : ℕ} (count : n ≡ marked i OnMachine b s m) where
      -- conflict

      pub conflict_is : n ≡ on_machine i b s m
      unfolding marked on_machine has_mark mark_of
      conflict_is = count

      pub conflict_some : 1 < n → Some (Conflict (record { 0 = s }) (record { 0 = m })) ≡ conflict_test i b s m
      unfolding conflict_test
      conflict_some more =
          failed_if _ (lt-ltb 1 (on_machine i b s m) (omega (arith, conflict_is)))

      pub conflict_none : n ≤ 1 → None ≡ conflict_test i b s m
      unfolding conflict_test
      conflict_none few =
          held_if _ (le-ltb 1 (on_machine i b s m) (omega (arith, conflict_is)))

    module _ (has wants : ℕ) (has_is : has ≡ locations_of i b s) (wants_is : wants ≡ spread_of i s) where
      -- spread

      pub spread_few : has < wants → Some (Spread (record { 0 = s }) has wants) ≡ spread_test i b s
      unfolding spread_test
      spread_few fewer =
          rw (has_is, wants_is) (failed_if _ (lt-ltb (locations_of i b s) (spread_of i s) (omega arith)))

      pub spread_enough : wants ≤ has → None ≡ spread_test i b s
      unfolding spread_test
      spread_enough enough =
          held_if _ (le-ltb (locations_of i b s) (spread_of i s) (omega arith))

    -- dependency

    pub near_is : (label : ℕ) {n : ℕ} → n ≡ marked i InNeighbourhood b s label → n ≡ in_neighbourhood i b s label
    unfolding marked in_neighbourhood has_mark mark_of
    near_is label count = count

  module _ (s k p : ℕ) {need m label n : ℕ} (m_is : m ≡ machine_at b p) (label_is : label ≡ neighbourhood_of i m)
      (need_is : need ≡ need_of i s k) (count : n ≡ marked i InNeighbourhood b need label) where
    pub far_some : n ≡ 0 → Some (Dependency (record { 0 = s }) (record { 0 = need }) label) ≡ far_test i b s k p
    unfolding far_test near_of
    far_some none = grind (arith, failed_if, eq-eqb, near_is)

    pub far_none : 0 < n → None ≡ far_test i b s k p
    unfolding far_test near_of
    far_none some = grind (arith, near_is, held_if)

module _ (i : Tables) (a0 : List Machine) where
  module _ (b : List Machine) (p : ℕ) where
    -- closed machines

    pub closed_some : (home m : ℕ) → home ≡ machine_at a0 p → m ≡ machine_at b p → closed_at i m ≡ true → home ≢ m →
        Some (Closed (record { 0 = p }) (record { 0 = m })) ≡ closed_test i a0 b p
    unfolding closed_test
    closed_some home m home_is m_is shut away = grind (arith, failed_if, and_from, not_from_false)

    pub closed_open : (m : ℕ) → m ≡ machine_at b p → closed_at i m ≡ false → None ≡ closed_test i a0 b p
    unfolding closed_test
    closed_open m m_is free = rw (← m_is) (held_if _ (and_left _ _ free))

    pub closed_home : (home m : ℕ) → home ≡ machine_at a0 p → m ≡ machine_at b p → home ≡ m →
        None ≡ closed_test i a0 b p
    unfolding closed_test
    closed_home home m home_is m_is same = grind (arith, held_if, and_right, not_from_true, eq-eqb)

pub ruleset owns = (of_other, of_here, of_elsewhere)

pub ruleset capacities = (capacity_over, capacity_within)

pub ruleset transients = (transient_over, transient_within, transient_once)

pub ruleset conflicts = (conflict_some, conflict_none)

pub ruleset spreads = (spread_few, spread_enough)

pub ruleset fars = (far_some, far_none)

pub ruleset closes = (closed_some, closed_open, closed_home)
