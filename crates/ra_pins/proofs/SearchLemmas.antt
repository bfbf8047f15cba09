-- What a look does to the search, what a pass does, and that at the end exactly the pinned processes are flagged.
use Rattle.std.proofs.Common.{inl, inr, ◌≡◌, ◌≢◌, ℕ, ◌+◌, ◌<◌, ◌≤◌, ◌⊎◌, Bool, true, false, List, length, get_or, set}
use Rattle.std.proofs.Common.{refl, sym, ap, ◌∙◌, arith, length-set, get_or-set_same, get_or-set_other, replicate}
use Rattle.std.proofs.lemmas.Bool.{cases_eq, both_ways, true≢false, true_from_ne_false}
use Rattle.std.proofs.lemmas.List.{get_or-replicate, get_or_past, length-replicate}
use Rattle.ra_base.specs.Sums.{count}
use Rattle.ra_base.specs.declared.ids.Machine.{Machine}
use Rattle.ra_base.proofs.Counts.{count_change, count_le, one_if_true, one_if_false}
use Rattle.ra_model.specs.declared.raw.Tables.{Tables}
use Rattle.ra_model.specs.Limits.{WellFormed}
use Rattle.ra_model.specs.Numbers.{machine_count, service_count, process_count, service_of}
use Rattle.ra_model.specs.Assignments.{IsAssignment, machine_at}
use Rattle.ra_pins.specs.Pinned.{stuck, is_pinned}
use Rattle.ra_pins.specs.PinLists.{flag_at}
use Rattle.ra_pins.specs.Pins.{AreExact}
use Rattle.ra_pins.specs.Loads.{IsTallyTable, row_share}
use Rattle.ra_pins.specs.Marks.{AreTouched, AreMarksOfFlagged}
use Rattle.ra_pins.specs.Walks.{spot, blocked_at, HasWalkedTo, IsWalk}
use Rattle.ra_pins.specs.Searches.{AreFlagsOfPinned, IsSearch, looks_at, Rests, IsBefore, flag_count, IsBetweenPasses}
use Rattle.ra_pins.specs.Searches.{HasWalked}
use Rattle.ra_pins.specs.Searches.{IsFlagged, HasLooked, IsWithin}
use Rattle.ra_pins.specs.declared.search.Search.{Search}
use Rattle.ra_pins.specs.declared.tables.Columns.TheVariants.{Transient}
use Rattle.ra_pins.proofs.RoundLemmas.{BelowAt, Below, IsClosed, blocked_same, taken_more, round_cases, pinned_stuck}
use Rattle.ra_pins.proofs.RoundLemmas.{exact_from}
use Rattle.ra_pins.proofs.TableLemmas.{OneMore, kept_more, kept_start}
use Rattle.ra_pins.proofs.WalkLemmas.{spot_within, round_stuck_all, free_unstuck, come_on, walked_set, walked_more}

module _ (flags : List Bool) (p : ℕ) where
  -- one flag more

  pub flag_set_same : p < length flags → flag_at (set flags p true) p ≡ true
  unfolding flag_at
  flag_set_same within = get_or-set_same flags p true false within

  pub flag_set_other : (z : ℕ) → z ≢ p → flag_at (set flags p true) z ≡ flag_at flags z
  unfolding flag_at
  flag_set_other z apart = get_or-set_other flags p z true false apart

  more_flags : (z : ℕ) → p < length flags → flag_at flags z ≡ true → flag_at (set flags p true) z ≡ true
  more_flags z within e = grind (arith, flag_set_same, flag_set_other)

module _ (old : Search) where
  module _ (new : Search) (p place : ℕ) where
    -- a process has gone on: what the others look at is as it was

    place_other : (q : ℕ) → new.places.items ≡ set old.places.items p place → q ≢ p →
        get_or new.places.items q 0 ≡ get_or old.places.items q 0
    place_other q places apart = grind (arith, get_or-set_other)

    place_own : new.places.items ≡ set old.places.items p place → p < length old.places.items →
        get_or new.places.items p 0 ≡ place
    place_own places within = grind (arith, get_or-set_same)

  module _ (new : Search) (home pass m : ℕ) (e : new.fuller.items ≡ set old.fuller.items home pass) where
    fuller_other : m ≢ home → get_or new.fuller.items m 0 ≡ get_or old.fuller.items m 0
    fuller_other apart = grind (arith, get_or-set_other)

    fuller_home : home < length old.fuller.items → m ≡ home → get_or new.fuller.items m 0 ≡ pass
    fuller_home within here = grind (arith, get_or-set_same)

-- the start of the search

none_at : (n p : ℕ) → flag_at (replicate n false) p ≡ false
unfolding flag_at
none_at n p = grind (arith, get_or-replicate, get_or_past, length-replicate)

zero_at : (n k : ℕ) → get_or {A = ℕ} (replicate n 0) k 0 ≡ 0
zero_at n k = grind (arith, get_or-replicate, get_or_past, length-replicate)

module _ (i : Tables) where
  module _ (flags : List Bool) where
    one_more : (p : ℕ) → p < length flags → flag_at flags p ≡ false →
        OneMore i (flag_at flags) (flag_at (set flags p true)) p
    one_more p within free = record {
      before = free;
      now = flag_set_same flags p within;
      others = λ z apart. flag_set_other flags p z apart;
    }

    touched_more : (touched : List Bool) (p : ℕ) → p < length flags → service_of i p < length touched →
        AreTouched i flags touched → AreTouched i (set flags p true) (set touched (service_of i p) true)
    touched_more touched p within inside are = record {
      one_each = length-set touched (service_of i p) true ∙ are.one_each;
      each = λ z h e. elim (cases_eq (service_of i z) (service_of i p)) [
        | inl here ↦ ap (flag_at (set touched (service_of i p) true)) here
            ∙ flag_set_same touched (service_of i p) inside
        | inr apart ↦ flag_set_other touched _ _ apart
            ∙ are.each z h (sym (flag_set_other flags p z (λ same. apart (ap (service_of i) same))) ∙ e)
      ];
    }

    count_more : (p : ℕ) → p < process_count i → p < length flags → flag_at flags p ≡ false →
        count (process_count i) (flag_at (set flags p true)) ≡ count (process_count i) (flag_at flags) + 1
    count_more p h within free =
        omega (
          arith,
          count_change (process_count i) p (flag_at (set flags p true)) (flag_at flags) h
              (λ k k_in apart. flag_set_other flags p k apart),
          one_if_true _
              (flag_set_same flags p within),
          one_if_false _ free,
        )

  before_flagged : (old new : Search) (p home pass t : ℕ) → length old.fuller.items ≡ machine_count i →
      home < machine_count i → IsFlagged i old new p home pass → pass < t → IsBefore i old t → IsBefore i new t
  before_flagged old new p home pass t sized home_in f few b = record {
    each = λ m m_in. elim (cases_eq m home) [
      | inl here ↦ omega (arith, fuller_home old new home pass m f.fuller (omega (arith, sized)) here, few)
      | inr apart ↦ omega (arith, fuller_other old new home pass m f.fuller apart, b.each m m_in)
    ];
  }

  pub count_within : (s : Search) → flag_count i s ≤ process_count i
  unfolding flag_count
  count_within s = count_le _ _

module _ (i : Tables) (a0 : List Machine) where
  module _ (flags : List Bool) (p m : ℕ) where
    below_more : p < length flags → BelowAt i a0 m (flag_at flags) (flag_at (set flags p true))
    below_more within = record { each = λ z h here e. more_flags flags p z within e }

    -- on another machine than its own it changes nothing
    below_back : m ≢ machine_at a0 p → BelowAt i a0 m (flag_at (set flags p true)) (flag_at flags)
    below_back apart = record {
      each = λ z h here e. sym (flag_set_other flags p z (λ same. apart (sym here ∙ ap (machine_at a0) same))) ∙ e;
    }

  module _ (flags : List Bool) where
    marked_more : (marks : List ℕ) (p : ℕ) → p < length flags → AreMarksOfFlagged i a0 flags marks →
        AreMarksOfFlagged i a0 (set flags p true) marks
    marked_more marks p within marked = record {
      one_each = marked.one_each;
      each = λ m s h e. taken_more i a0 s m _ _ (below_more flags p m within)
          (marked.each m s h e);
    }

    sound_below : AreFlagsOfPinned i a0 flags → Below i (flag_at flags) (is_pinned i a0)
    sound_below sound = record { each = λ z h e. sound.each z h e }

    sound_more : (p : ℕ) → AreFlagsOfPinned i a0 flags → stuck i a0 (flag_at flags) p ≡ true →
        AreFlagsOfPinned i a0 (set flags p true)
    sound_more p sound shut = record {
      one_each = length-set flags p true ∙ sound.one_each;
      each = λ z h e. elim (cases_eq z p) [
        | inl here ↦ pinned_stuck i a0 _ z (sound_below sound) h
            (ap (stuck i a0 (flag_at flags)) here ∙ shut)
        | inr apart ↦ sound.each z h (sym (flag_set_other flags p z apart) ∙ e)
      ];
    }

  -- a process goes on

  pub walked : (old new : Search) (p place : ℕ) → IsSearch i a0 old → p < process_count i →
      IsWalk i a0 old.flags.items p (get_or old.places.items p 0) place →
      AreMarksOfFlagged i a0 old.flags.items new.marks.items → new.flags ≡ old.flags → new.kept ≡ old.kept →
      new.fuller ≡ old.fuller → new.touched ≡ old.touched → new.places.items ≡ set old.places.items p place →
      HasWalked i a0 old new p place
  walked old new p place search h walk marked flags kept fuller touched places = record {
    search = record {
      flags = rw flags search.flags;
      kept = rw (flags, kept) search.kept;
      places = rw (flags, places)
          (walked_set i a0 old.flags.items old.places.items p place search.places
          (come_on i a0 old.flags.items p _ place (search.places.each p h) walk));
      fuller = rw fuller search.fuller;
      touched = rw (flags, touched) search.touched;
      marks = rw flags marked;
    };
    walk = walk;
    flags = flags;
    fuller = fuller;
    places = places;
  }

  -- a process needn't look

  pub look_rests : (s : Search) (t p : ℕ) → IsSearch i a0 s →
      (flag_at s.flags.items p ≡ true) ⊎ (get_or s.fuller.items (looks_at i a0 s.places.items p) 0 < t) →
      HasLooked i a0 s s t p false
  look_rests s t p search idle = record {
    search = search;
    before = λ b. b;
    others = λ u q few h apart r. r;
    rests = λ r. record {
      within = λ free late. elim idle [
        | inl e ↦ absurd (both_ways _ free e)
        | inr e ↦ r.within free e
      ];
      free = λ free late. elim idle [
        | inl e ↦ absurd (both_ways _ free e)
        | inr e ↦ r.free free e
      ];
    };
    more = λ e. absurd (true≢false (sym e));
    same = λ e. refl;
    quiet = λ e. refl;
  }

  looks_other : (old new : List ℕ) (q : ℕ) → get_or new q 0 ≡ get_or old q 0 → looks_at i a0 new q ≡ looks_at i a0 old q
  unfolding looks_at
  looks_other old new q same = ap (spot (machine_count i) (machine_at a0 q)) same

  blocked_other : (flags : List Bool) (p q place : ℕ) → p < length flags →
      spot (machine_count i) (machine_at a0 q) place ≢ machine_at a0 p →
      blocked_at i a0 (set flags p true) q place ≡ blocked_at i a0 flags q place
  unfolding blocked_at
  blocked_other flags p q place within apart = grind (arith, blocked_same, below_more, below_back)

  away_looks : (places : List ℕ) (q at : ℕ) → looks_at i a0 places q ≢ at →
      spot (machine_count i) (machine_at a0 q) (get_or places q 0) ≢ at
  unfolding looks_at
  away_looks places q at apart = apart

  first_place : (flags : List Bool) (p place : ℕ) → WellFormed i → place ≡ 1 → HasWalkedTo i a0 flags p place
  first_place flags p place formed one = record {
    some = omega (arith, one);
    within = omega (arith, one, formed.some_machine);
    behind = λ j some before. absurd (omega (arith, one));
  }

  pub start_between : (s : Search) → WellFormed i → s.flags.items ≡ replicate (process_count i) false →
      s.places.items ≡ replicate (process_count i) 1 → s.fuller.items ≡ replicate (machine_count i) 0 →
      s.touched.items ≡ replicate (service_count i) false → s.marks.items ≡ replicate (machine_count i) 0 →
      IsTallyTable i (process_count i) (row_share i Transient) a0 s.kept.items → IsBetweenPasses i a0 s 0
  start_between s formed flags places fuller touched marks sums =
      let none = λ (p : ℕ). ap (λ l. flag_at l p) flags
      ∙ none_at (process_count i) p in
      record {
        search = record {
          flags = record {
            one_each = ap length flags ∙ length-replicate {A = Bool} (process_count i) false;
            each = λ p h e. absurd (both_ways _ (none p) e);
          };
          kept = kept_start i a0 _ s.kept.items (λ z h. none z) sums;
          places = record {
            one_each = ap length places ∙ length-replicate {A = ℕ} (process_count i) 1;
            each = λ p h. first_place s.flags.items p _ formed
                (ap (λ l. get_or l p 0) places ∙ get_or-replicate (process_count i) p 1 0 h);
          };
          fuller = ap length fuller ∙ length-replicate {A = ℕ} (machine_count i) 0;
          touched = record {
            one_each = ap length touched ∙ length-replicate {A = Bool} (service_count i) false;
            each = λ z h e. absurd (both_ways _ (none z) e);
          };
          marks = record {
            one_each = ap length marks ∙ length-replicate {A = ℕ} (machine_count i) 0;
            each = λ m u h e. absurd (omega (arith, e, ap (λ l. get_or l m 0) marks, zero_at));
          };
        };
        before = record { each = λ m h. omega (arith, ap (λ l. get_or l m 0) fuller, zero_at) };
        rests = λ p h. record { within = λ free e. absurd (omega arith); free = λ free e. absurd (omega arith) };
      }

  -- as the calls have given the counts
  pub start_made : (s : Search) (processes machines services : ℕ) → WellFormed i → processes ≡ process_count i →
      machines ≡ machine_count i → services ≡ service_count i → s.flags.items ≡ replicate processes false →
      s.places.items ≡ replicate processes 1 → s.fuller.items ≡ replicate machines 0 →
      s.touched.items ≡ replicate services false → s.marks.items ≡ replicate machines 0 →
      IsTallyTable i (process_count i) (row_share i Transient) a0 s.kept.items → IsBetweenPasses i a0 s 0
  start_made s processes machines services formed p_is m_is s_is flags places fuller touched marks sums =
      start_between s formed (rw (← p_is) flags) (rw (← p_is) places) (rw (← m_is) fuller) (rw (← s_is) touched)
      (rw (← m_is) marks) sums

module _ {i : Tables} {a0 : List Machine} where
  module _ {old new : Search} {p place : ℕ} (w : HasWalked i a0 old new p place) where
    rests_walked : (u q : ℕ) → q ≢ p → Rests i a0 old u q → Rests i a0 new u q
    rests_walked u q apart r =
        let same : get_or new.places.items q 0 ≡ get_or old.places.items q 0 =
        place_other old new p place q w.places apart in
        let full : get_or new.fuller.items (looks_at i a0 new.places.items q) 0 ≡ get_or old.fuller.items
        (looks_at i a0 old.places.items q) 0 = ap (λ f. get_or f.items (looks_at i a0 new.places.items q) 0) w.fuller
        ∙ ap (λ k. get_or old.fuller.items k 0) (looks_other i a0 old.places.items new.places.items q same) in
        let flag : flag_at new.flags.items q ≡ flag_at old.flags.items q = ap (λ f. flag_at f.items q) w.flags in
        record {
          within = λ free late. omega (arith, same, r.within (sym flag ∙ free) (omega (arith, full, late)));
          free = λ free late. ap (λ f. blocked_at i a0 f.items q (get_or new.places.items q 0)) w.flags
              ∙ ap (blocked_at i a0 old.flags.items q) same ∙ r.free (sym flag ∙ free) (omega (arith, full, late));
        }

    rests_own : (u : ℕ) → p < length old.places.items → place < machine_count i → Rests i a0 new u p
    rests_own u within few =
        let own : get_or new.places.items p 0 ≡ place = place_own old new p place w.places within in
        record {
          within = λ free late. omega (arith, own, few);
          free = λ free late. ap (λ f. blocked_at i a0 f.items p (get_or new.places.items p 0)) w.flags
              ∙ ap (blocked_at i a0 old.flags.items p) own ∙ w.walk.free few;
        }

    pub look_walks : (t : ℕ) → IsSearch i a0 old → p < process_count i → place < machine_count i →
        HasLooked i a0 old new t p false
    unfolding flag_count
    look_walks t search h few = record {
      search = w.search;
      before = λ b. record { each = λ m m_in. omega (arith, ap (λ f. get_or f.items m 0) w.fuller, b.each m m_in) };
      others = λ u q u_few q_in apart r. rests_walked u q apart r;
      rests = λ r. rests_own _ (omega (arith, search.places.one_each)) few;
      more = λ e. absurd (true≢false (sym e));
      same = λ e. ap (λ f. count (process_count i) (flag_at f.items)) w.flags;
      quiet = λ e. w.fuller;
    }

    before_walked : (t : ℕ) → IsBefore i old t → IsBefore i new t
    before_walked t b = record {
      each = λ m m_in. omega (arith, ap (λ f. get_or f.items m 0) w.fuller, b.each m m_in);
    }

    -- the process that went round the whole circle is stuck
    end_stuck : IsAssignment i a0 → IsSearch i a0 old → p < process_count i → machine_count i ≤ place →
        stuck i a0 (flag_at new.flags.items) p ≡ true
    end_stuck fits search h end = grind (arith, round_stuck_all, come_on)

  -- a process is flagged

  module _ {old new : Search} {p home pass : ℕ} (search : IsSearch i a0 old) (h : p < process_count i)
      (is : home ≡ machine_at a0 p) (f : IsFlagged i old new p home pass) where
    flagged_search : WellFormed i → flag_at old.flags.items p ≡ false →
        stuck i a0 (flag_at old.flags.items) p ≡ true → IsSearch i a0 new
    flagged_search formed free shut =
        let within : p < length old.flags.items = omega (arith, search.flags.one_each) in
        record {
          flags = rw f.flags (sound_more i a0 old.flags.items p search.flags shut);
          kept = rw f.flags
              (kept_more i a0 _ _ p home old.kept.items
              new.kept.items (one_more i old.flags.items p within free) h is search.kept f.kept);
          places = rw (f.flags, f.places)
              (walked_more i a0 old.flags.items (set old.flags.items p true) old.places.items
              (λ m. below_more i a0 old.flags.items p m within) search.places);
          fuller = ap length f.fuller ∙ length-set old.fuller.items home pass ∙ search.fuller;
          touched = rw (f.flags, f.touched)
              (touched_more i old.flags.items old.touched.items p within
              (omega (arith, formed.services p h, search.touched.one_each)) search.touched);
          marks = rw (f.flags, f.marks) (marked_more i a0 old.flags.items old.marks.items p within search.marks);
        }

    -- another process that may rest may rest still, or looks at the machine of the flagged one
    rests_flagged : (u q : ℕ) → home < machine_count i → u ≤ pass → q ≢ p → Rests i a0 old u q → Rests i a0 new u q
    rests_flagged u q home_in few apart r =
        let within : p < length old.flags.items = omega (arith, search.flags.one_each) in
        let flag : flag_at new.flags.items q ≡ flag_at old.flags.items q = ap (λ l. flag_at l q) f.flags
        ∙ flag_set_other old.flags.items p q apart in
        let same : get_or new.places.items q 0 ≡ get_or old.places.items q 0 = ap (λ l. get_or l.items q 0) f.places in
        let looks : looks_at i a0 new.places.items q ≡ looks_at i a0 old.places.items q =
        ap (λ l. looks_at i a0 l.items q) f.places in
        elim (cases_eq (looks_at i a0 new.places.items q) home) [
          | inl here ↦ let late : get_or new.fuller.items (looks_at i a0 new.places.items q) 0 ≡ pass =
              fuller_home old new home pass _ f.fuller
              (omega (arith, search.fuller)) here in
              let idle : Rests i a0 new u q = record {
                within = λ free e. absurd (omega (arith, late, e, few));
                free = λ free e. absurd (omega (arith, late, e, few));
              } in idle
          | inr away ↦ let full : get_or new.fuller.items
              (looks_at i a0 new.places.items q) 0 ≡ get_or old.fuller.items
              (looks_at i a0 old.places.items q) 0 = fuller_other old new home pass _
              f.fuller away ∙ ap (λ k. get_or old.fuller.items k 0) looks in
              let idle : Rests i a0 new u q = record {
                within = λ free e. omega (arith, same, r.within (sym flag ∙ free) (omega (arith, full, e)));
                free = λ free e. ap (λ l. blocked_at i a0 l q (get_or new.places.items q 0)) f.flags
                    ∙ ap (blocked_at i a0 (set old.flags.items p true) q) same
                    ∙ blocked_other i a0 old.flags.items p q (get_or old.places.items q 0) within
                    (away_looks i a0 old.places.items q (machine_at a0 p) (λ e. away (looks ∙ e ∙ sym is)))
                    ∙ r.free (sym flag ∙ free) (omega (arith, full, e));
              } in idle
        ]

  pub look_flags : {old mid new : Search} (t : ℕ) {p home place pass : ℕ} → WellFormed i → IsAssignment i a0 →
      IsSearch i a0 old → p < process_count i → home ≡ machine_at a0 p → pass ≡ t + 1 → machine_count i ≤ place →
      flag_at old.flags.items p ≡ false → HasWalked i a0 old mid p place → IsFlagged i mid new p home pass →
      HasLooked i a0 old new t p true
  unfolding flag_count
  look_flags {old} {mid} {new} t {p} {home} {pass = pass} formed fits search h is now end free w f =
      let home_in : home < machine_count i = omega (arith, is, fits.in_range p h) in
      let still : flag_at mid.flags.items p ≡ false = ap (λ l. flag_at l.items p) w.flags ∙ free in
      let within : p < length mid.flags.items = omega (arith, w.search.flags.one_each) in
      let flagged : flag_at new.flags.items p ≡ true = ap (λ l. flag_at l p) f.flags
      ∙ flag_set_same mid.flags.items p within in
      record {
        search = flagged_search w.search h is f formed still (end_stuck w fits search h end);
        before = λ b. before_flagged i mid new p home pass _ w.search.fuller home_in f (omega (arith, now))
            (before_walked w _ b);
        others = λ u q few q_in apart r. rests_flagged w.search h is f u q home_in
            (omega (arith, now)) apart (rests_walked w u q apart r);
        rests = λ r. record {
          within = λ idle e. absurd (both_ways _ idle flagged);
          free = λ idle e. absurd (both_ways _ idle flagged);
        };
        more = λ e. ap (λ l. count (process_count i) (flag_at l)) f.flags
            ∙ count_more i mid.flags.items p h within still
            ∙ ap (λ l. count (process_count i) (flag_at l.items) + 1) w.flags;
        same = λ e. absurd (true≢false e);
        quiet = λ e. absurd (true≢false e);
      }

  -- a pass, process by process

  pub pass_start : {s : Search} {t : ℕ} → IsBetweenPasses i a0 s t → IsWithin i a0 s s t 0 false
  pass_start b = record {
    search = b.search;
    before = record { each = λ m h. omega (arith, b.before.each m h) };
    done = λ q h e. absurd (omega arith);
    to_come = λ q h e. b.rests q h;
    grown = omega arith;
    more = λ e. absurd (true≢false (sym e));
    quiet = λ e. refl;
  }

  module _ {s : Search} {t : ℕ} (fits : IsAssignment i a0) (search : IsSearch i a0 s) (before : IsBefore i s t) where
    -- a process that is blocked from every other machine is flagged, or else it would look again
    free_flag : {p : ℕ} → Rests i a0 s t p → p < process_count i → stuck i a0 (flag_at s.flags.items) p ≡ true →
        flag_at s.flags.items p ≡ true
    unfolding looks_at
    free_flag r h shut = grind (arith, true_from_ne_false, spot_within, free_unstuck)

    -- a pass that flags nothing: exactly the pinned processes are flagged
    exact_at_rest : ((p : ℕ) → p < process_count i → Rests i a0 s t p) → AreExact i a0 s.flags.items
    exact_at_rest rests =
        let closed : IsClosed i a0 (flag_at s.flags.items) = record {
          each = λ p h e. elim (round_cases i a0 _ p e) [
            | inl flag ↦ flag
            | inr stays ↦ free_flag (rests p h) h stays
          ];
        } in
        record {
          one_each = search.flags.one_each;
          each = λ p h. exact_from i a0 _ p
              (sound_below i a0 s.flags.items search.flags) closed h;
        }

  module _ {first old : Search} {t n : ℕ} {some : Bool} (w : IsWithin i a0 first old t n some) where
    pub pass_ends : n ≡ process_count i → IsBetweenPasses i a0 old (t + 1)
    pass_ends all = record {
      search = w.search;
      before = record { each = λ m h. omega (arith, w.before.each m h) };
      rests = λ q h. w.done q h (omega (arith, all));
    }

    pub pass_exact : IsAssignment i a0 → IsBetweenPasses i a0 first t → n ≡ process_count i → some ≡ false →
        AreExact i a0 old.flags.items
    pass_exact fits between all none =
        let before : IsBefore i old (t + 1) = record {
          each = λ m h. omega (arith, ap (λ f. get_or f.items m 0) (w.quiet none), between.before.each m h);
        } in
        exact_at_rest fits w.search before (λ p h. w.done p h (omega (arith, all)))

    module _ {new : Search} where
      pass_rests : {flagged : Bool} → HasLooked i a0 old new t n flagged → (q : ℕ) → q < process_count i → q < n + 1 →
          Rests i a0 new (t + 1) q
      pass_rests l q h e = elim (cases_eq q n) [
        | inl here ↦ rw here (l.rests (w.to_come n (omega (arith, here)) (omega arith)))
        | inr apart ↦ l.others (t + 1) q (omega arith) h apart (w.done q h (omega (arith, apart)))
      ]

      pass_flags : HasLooked i a0 old new t n true → IsWithin i a0 first new t (n + 1) true
      pass_flags l = record {
        search = l.search;
        before = l.before w.before;
        done = λ q h e. pass_rests l q h e;
        to_come = λ q h e. l.others t q (omega arith) h (λ same. absurd (omega arith)) (w.to_come q h (omega arith));
        grown = omega (arith, w.grown, l.more refl);
        more = λ e. omega (arith, w.grown, l.more refl);
        quiet = λ e. absurd (true≢false e);
      }

      pass_stays : HasLooked i a0 old new t n false → IsWithin i a0 first new t (n + 1) some
      pass_stays l = record {
        search = l.search;
        before = l.before w.before;
        done = λ q h e. pass_rests l q h e;
        to_come = λ q h e. l.others t q (omega arith) h (λ same. absurd (omega arith)) (w.to_come q h (omega arith));
        grown = omega (arith, w.grown, l.same refl);
        more = λ e. omega (arith, w.more e, l.same refl);
        quiet = λ e. l.quiet refl ∙ w.quiet e;
      }

      module _ {flagged after : Bool} (l : HasLooked i a0 old new t n flagged) where
        -- a pass as a loop makes it

        pub pass_next_flags : flagged ≡ true → after ≡ true → IsWithin i a0 first new t (n + 1) after
        pass_next_flags is now = rw now (pass_flags (rw is at l))

        pub pass_next_stays : flagged ≡ false → after ≡ some → IsWithin i a0 first new t (n + 1) after
        pass_next_stays is now = rw now (pass_stays (rw is at l))
