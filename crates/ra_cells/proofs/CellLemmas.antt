-- What cells tell of the assignments that they represent, and what a change leaves.
use Rattle.std.proofs.Common.{inl, inr, length, ◌≡◌, ℕ, ◌+◌, ◌-◌, ◌<◌, ◌≤◌, ◌≢◌, Bool, true, false, not, eqb, ltb, ◌&&◌}
use Rattle.std.proofs.Common.{List, get_or}
use Rattle.std.proofs.Common.{set, cond, subst, sym, refl, ap, ◌∙◌, arith, eq-eqb, length-set, get_or-set_other}
use Rattle.std.proofs.Common.{get_or-set_same}
use Rattle.std.proofs.lemmas.Bool.{cases_eq, and_left, and_right}
use Rattle.std.proofs.lemmas.List.{get_or_read}
use Rattle.ra_base.specs.Sums.{one_if}
use Rattle.ra_base.specs.declared.ids.Machine.{Machine}
use Rattle.ra_base.proofs.Counts.{count_same, one_if_true, one_if_false, one_if_le}
use Rattle.ra_model.specs.declared.raw.Tables.{Tables}
use Rattle.ra_model.specs.Limits.{WellFormed}
use Rattle.ra_model.specs.Numbers.{machine_count, service_count, process_count, service_of}
use Rattle.ra_model.specs.Assignments.{machine_at, IsAssignment}
use Rattle.ra_model.specs.Services.{is_of, of_service, members_at, on_machine, in_location, in_neighbourhood}
use Rattle.ra_model.specs.Services.{locations_of, moved_of}
use Rattle.ra_model.specs.Sorting.{members_before}
use Rattle.ra_model.proofs.TallyLemmas.{tally_zero, tally_term, tally_bound, members_set}
use Rattle.ra_model.proofs.SortingLemmas.{is_of_same, is_of_other}
use Rattle.ra_cells.specs.declared.cells.Cells.{Cells}
use Rattle.ra_cells.specs.declared.marks.Mark.{Mark}
use Rattle.ra_cells.specs.declared.marks.Mark.TheVariants.{InLocation}
use Rattle.ra_cells.specs.Marks.{mark_of, marked, away}
use Rattle.ra_cells.specs.Held.{labels_held, different, Ascends, Exchanged}
use Rattle.ra_cells.specs.Labels.{AreSorted, AreMarks, AreDifferent}
use Rattle.ra_cells.specs.Stands.{StandFor, HavePlaced}
use Rattle.ra_cells.proofs.HeldLemmas.{held_same, different_same, different_le}
use Rattle.ra_cells.proofs.MakingLemmas.{part_ordered, parts_ordered, part_there, part_within}

-- moved counts
away_is : (b : Bool) → one_if (cond b false true) ≡ one_if (not b)
away_is true = refl
away_is false = refl

module _ (i : Tables) where
  different_marks : (a : List Machine) (n : ℕ) (labels : List ℕ) (s : ℕ) → AreMarks i InLocation a n labels → s < n →
      different labels (members_before i s) (members_before i (s + 1)) ≡ locations_of i a s
  unfolding different locations_of marked mark_of in_location
  different_marks a n labels s h within = count_same _ _ _ (λ y y_in. ap (ltb 0) (h.each s y within))

  module _ (labels numbers : List ℕ) where
    spread_is : (n s x : ℕ) → AreDifferent i labels n numbers → s < n → x ≡ get_or numbers s x →
        x ≡ different labels (members_before i s) (members_before i (s + 1))
    spread_is n s x h within read =
        get_or_read numbers s x (omega (arith, h.one_each)) read 0 ∙ h.each s within

    pub spread_within : (s x : ℕ) → WellFormed i → AreDifferent i labels (service_count i) numbers →
        s < service_count i → x ≡ get_or numbers s x → x ≤ process_count i
    spread_within s x formed h within read =
        omega (
          arith,
          spread_is (service_count i) s x h within read,
          different_le labels (members_before i s) (members_before i (s + 1)),
          part_within i (s + 1) formed (omega arith),
        )

  -- no process has moved from where it was at first
  pub moved_none : (a0 : List Machine) (s : ℕ) → moved_of i a0 a0 s ≡ 0
  unfolding moved_of members_at of_service
  moved_none a0 s = grind (arith, tally_zero, one_if_false, and_right, eq-eqb)

  module _ (s p at : ℕ) (test : ℕ → ℕ → Bool) where
    -- the share of one process
    member_share : service_of i p ≡ s → of_service i s test p at ≡ one_if (test p at)
    unfolding of_service
    member_share is = ap (λ b. one_if (b && test p at)) (is_of_same i s p is)

    other_share : service_of i p ≢ s → of_service i s test p at ≡ 0
    unfolding of_service
    other_share other = one_if_false _ (and_left _ _ (is_of_other i s p other))

  module _ (a : List Machine) (p : ℕ) (to : Machine) (s : ℕ) (test : ℕ → ℕ → Bool) (fits : IsAssignment i a)
      (within : p < process_count i) where
    -- counts of the service of a process that changes its machine, and of another service
    members_mine : service_of i p ≡ s → members_at i (set a p to) s test + one_if (test p (machine_at a p)) ≡
        members_at i a s test + one_if (test p to.0)
    members_mine is =
        omega (arith, members_set, member_share)

    members_other : service_of i p ≢ s → members_at i (set a p to) s test ≡ members_at i a s test
    members_other other =
        omega (arith, members_set, other_share)

  -- a process of the service is counted
  members_some : (a : List Machine) (p s : ℕ) (test : ℕ → ℕ → Bool) → p < process_count i → service_of i p ≡ s →
      one_if (test p (machine_at a p)) ≤ members_at i a s test
  unfolding members_at
  members_some a p s test within is =
      omega (
        arith,
        tally_term (process_count i) p (of_service i s test) a within,
        member_share s p (machine_at a p) test is,
      )

  module _ (mark : Mark) (a : List Machine) (p : ℕ) (to : Machine) (s x : ℕ) (fits : IsAssignment i a)
      (within : p < process_count i) where
    marked_mine : service_of i p ≡ s →
        marked i mark (set a p to) s x + one_if (eqb (mark_of i mark (machine_at a p)) x) ≡
        marked i mark a s x + one_if (eqb (mark_of i mark to.0) x)
    unfolding marked
    marked_mine is = grind (arith, members_mine)

    marked_other : service_of i p ≢ s → marked i mark (set a p to) s x ≡ marked i mark a s x
    unfolding marked
    marked_other other = grind (arith, members_other)

  marked_some : (mark : Mark) (a : List Machine) (p m s : ℕ) → p < process_count i → service_of i p ≡ s →
      machine_at a p ≡ m → 0 < marked i mark a s (mark_of i mark m)
  unfolding marked
  marked_some mark a p m s within is here =
      omega (
        arith,
        members_some a p s (λ q at. eqb (mark_of i mark at) (mark_of i mark m)) within is,
        one_if_true (eqb (mark_of i mark (machine_at a p)) (mark_of i mark m)) (eq-eqb _ _ (ap (mark_of i mark) here)),
      )

module _ (i : Tables) (a0 a : List Machine) where
  module _ (p : ℕ) (to : Machine) (s : ℕ) (fits : IsAssignment i a) (within : p < process_count i) where
    moved_mine : service_of i p ≡ s → moved_of i a0 (set a p to) s + away (machine_at a0 p) (machine_at a p) ≡
        moved_of i a0 a s + away (machine_at a0 p) to.0
    unfolding moved_of away
    moved_mine is = grind (arith, members_mine, away_is)

    moved_other : service_of i p ≢ s → moved_of i a0 (set a p to) s ≡ moved_of i a0 a s
    unfolding moved_of
    moved_other other = grind (arith, members_other)

  moved_some : (p s : ℕ) → p < process_count i → service_of i p ≡ s →
      away (machine_at a0 p) (machine_at a p) ≤ moved_of i a0 a s
  unfolding moved_of away
  moved_some p s within is =
      omega (
        arith,
        members_some i a p s (λ q at. cond (eqb (machine_at a0 q) at) false true) within is,
        away_is (eqb (machine_at a0 p) (machine_at a p)),
      )

  moved_le : (s : ℕ) → moved_of i a0 a s ≤ process_count i
  unfolding moved_of members_at of_service
  moved_le s =
      omega (
        arith,
        tally_bound (process_count i) 1 (λ p at. one_if (is_of i s p && cond (eqb (machine_at a0 p) at) false true)) a
            (λ p within. one_if_le (is_of i s p && cond (eqb (machine_at a0 p) (machine_at a p)) false true)),
      )

-- the part of the labels that the service of process p has
pub record IsPart (i : Tables) (p s start end : ℕ) : Type 0 where
  pub formed : WellFormed i
  pub process : p < process_count i
  pub service : s ≡ service_of i p
  pub there : s < service_count i
  pub start_is : start ≡ members_before i s
  pub end_is : end ≡ members_before i (s + 1)

pub part : {i : Tables} (p : ℕ) {s start end : ℕ} → WellFormed i → p < process_count i → s ≡ service_of i p →
    start ≡ members_before i s → end ≡ members_before i (s + 1) → IsPart i p s start end
part p formed process service start_is end_is = record {
  formed = formed;
  process = process;
  service = service;
  there = omega (arith, service, formed.services p process);
  start_is = start_is;
  end_is = end_is;
}

module _ {i : Tables} {p s start end : ℕ} (part : IsPart i p s start end) where
  pub ordered : start ≤ end
  ordered = omega (arith, part.start_is, part.end_is, part_ordered)

  pub ends : {labels : List ℕ} → AreSorted i (service_count i) labels → end ≤ length labels
  ends {labels} sorted = omega (arith, part.end_is, part_there i labels s part.formed sorted part.there)

  -- the label of a process is held
  pub held_there : (mark : Mark) {a : List Machine} {labels : List ℕ} {m x : ℕ} →
      AreMarks i mark a (service_count i) labels → machine_at a p ≡ m → x ≡ mark_of i mark m →
      0 < labels_held labels start end x
  held_there mark {a} {labels} {m} marks here x_is = grind (arith, marked_some)

  module _ {old new : List ℕ} {left come : ℕ} (changed : Exchanged old new start end left come) where
    exchanged : Exchanged old new (members_before i s) (members_before i (s + 1)) left come
    exchanged = rw (← part.start_is, ← part.end_is) changed

    -- places of another service's part are outside
    outside : (t k : ℕ) → t ≢ s → members_before i t ≤ k → k < members_before i (t + 1) →
        get_or new k 0 ≡ get_or old k 0
    outside t k apart from within = grind (arith, parts_ordered)

    pub sorted_after : AreSorted i (service_count i) old → Ascends new start end → AreSorted i (service_count i) new
    sorted_after h ascends = record {
      one_each = changed.one_each ∙ h.one_each;
      sorted = λ t below. elim (cases_eq t s) [
        | inl same ↦ rw (same, ← part.start_is, ← part.end_is) ascends
        | inr apart ↦ record {
          ordered = λ j k from order inside.
              omega (
                arith,
                outside t j apart from (omega arith),
                outside t k apart (omega arith) inside,
                (h.sorted t below).ordered j k from order inside,
              );
        }
      ];
    }

    pub different_after_change : {d : ℕ} {numbers : List ℕ} → AreDifferent i old (service_count i) numbers →
        d ≡ different new start end → AreDifferent i new (service_count i) (set numbers s d)
    different_after_change {d} {numbers} h is = record {
      one_each = length-set numbers s d ∙ h.one_each;
      each = λ t below. elim (cases_eq t s) [
        | inl same ↦ rw (same, ← part.start_is, ← part.end_is)
            (get_or-set_same numbers s d 0 (omega (arith, h.one_each, part.there)) ∙ is)
        | inr apart ↦ get_or-set_other numbers s t d 0 apart ∙ h.each t below
            ∙ sym (different_same old new (members_before i t) (members_before i (t + 1))
            (λ k from inside. outside t k apart from inside))
      ];
    }

    -- the marks after a change
    pub marks_after : (mark : Mark) {a : List Machine} {m : ℕ} (to : Machine) → IsAssignment i a → machine_at a p ≡ m →
        left ≡ mark_of i mark m → come ≡ mark_of i mark to.0 → AreMarks i mark a (service_count i) old →
        AreMarks i mark (set a p to) (service_count i) new
    marks_after mark {a} to fits here left_is come_is h = record {
      each = λ t x below. elim (cases_eq t s) [
        | inl same ↦ rw same
            (omega (
              arith,
              exchanged.held_within x,
              h.each s x part.there,
              marked_mine,
              ap (λ y. one_if (eqb y x)) left_is,
              ap (λ y. one_if (eqb y x)) come_is,
              ap (λ y. one_if (eqb (mark_of i mark y) x)) here,
            ))
        | inr apart ↦ held_same old new _ _ x
            (λ k from inside. outside t k apart from inside) ∙ h.each t x below
            ∙ sym (marked_other i mark a p to t x fits part.process (λ e. apart (sym e ∙ sym part.service)))
      ];
    }

-- cells that represent an assignment represent it for their own instance
pub own : {cells : Cells} {i : Tables} {a0 a : List Machine} → StandFor cells i a0 a →
    StandFor cells cells.inst.now.tables cells.start.now.items a
own {cells} {i} {a = a} h = subst (λ (j : Tables). StandFor cells j cells.start.now.items a) (sym h.instance)
    (subst (λ (b : List Machine). StandFor cells i b a) (sym h.start) h)

module _ {cells : Cells} {p s start end home : ℕ} (part : IsPart cells.inst.now.tables p s start end)
    (home_is : home ≡ machine_at cells.start.now.items p) where
  -- if some assignment has the process on its machine, its service's count can change as it does
  pub recount_some : {m : ℕ} → HavePlaced cells p m → away home m ≤ get_or cells.greatest.counts s 0
  recount_some h =
      rw (home_is, ← h.here)
      (omega (
        arith,
        (own h.stand).moved s part.there,
        moved_some cells.inst.now.tables cells.start.now.items h.assignment p s part.process (sym part.service),
      ))

  pub recount_room : {m : ℕ} (to : Machine) → HavePlaced cells p m →
      get_or cells.greatest.counts s 0 + away home to.0 ≤ cells.greatest.limit + away home m
  recount_room to h =
      let i = cells.inst.now.tables in
      let a0 = cells.start.now.items in
      rw (home_is, ← h.here)
      (omega (
        arith,
        (own h.stand).moved s part.there,
        moved_mine i a0 h.assignment p to s (own h.stand).fits part.process (sym part.service),
        moved_le i a0 (set h.assignment p to) s,
        cells.limit_there,
      ))

  -- the moved counts after a change
  pub moved_after : {m : ℕ} {a : List Machine} {new : List ℕ} (to : Machine) →
      StandFor cells cells.inst.now.tables cells.start.now.items a → machine_at a p ≡ m →
      new ≡ set cells.greatest.counts s (get_or cells.greatest.counts s 0 + away home to.0 - away home m) → (t : ℕ) →
      t < service_count cells.inst.now.tables →
      get_or new t 0 ≡ moved_of cells.inst.now.tables cells.start.now.items (set a p to) t
  moved_after {m} {a} to h here new_is t t_in =
      grind (arith, get_or-set_same, moved_mine, get_or-set_other, moved_other)

module _ {cells : Cells} {i : Tables} {a0 a : List Machine} (s : ℕ) {x : ℕ} (h : StandFor cells i a0 a)
    (within : s < service_count cells.inst.now.tables) where
  pub told_machine : (m : ℕ) → x ≡ labels_held cells.machines.items (members_before cells.inst.now.tables s)
      (members_before cells.inst.now.tables (s + 1)) m → x ≡ on_machine i a s m
  unfolding marked mark_of on_machine
  told_machine m is = grind (arith, own)

  pub told_location : (y : ℕ) → x ≡ labels_held cells.locations.items (members_before cells.inst.now.tables s)
      (members_before cells.inst.now.tables (s + 1)) y → x ≡ in_location i a s y
  unfolding marked mark_of in_location
  told_location y is = grind (arith, own)

  pub told_neighbourhood : (y : ℕ) →
      x ≡ labels_held cells.neighbourhoods.items (members_before cells.inst.now.tables s)
      (members_before cells.inst.now.tables (s + 1)) y → x ≡ in_neighbourhood i a s y
  unfolding marked mark_of in_neighbourhood
  told_neighbourhood y is = grind (arith, own)

  pub told_spread : x ≡ get_or cells.spreads.items s x → x ≡ locations_of i a s
  told_spread read =
      let i0 = cells.inst.now.tables in
      spread_is i0 cells.locations.items cells.spreads.items (service_count i0) s x cells.spreads_there within read
      ∙ different_marks i0 a (service_count i0) cells.locations.items s (own h).in_locations within
      ∙ ap (λ (j : Tables). locations_of j a s) h.instance

module _ (cells : Cells) (i : Tables) (a0 a : List Machine) where
  -- what the one that holds the assignment shows of a change
  pub placed : (p m : ℕ) → StandFor cells i a0 a → machine_at a p ≡ m → HavePlaced cells p m
  placed p m h here = record { tables = i; initial = a0; assignment = a; stand = h; here = here }

  pub service_there : (s : ℕ) → StandFor cells i a0 a → s < service_count i → s < service_count cells.inst.now.tables
  service_there s h within = subst (λ (j : Tables). s < service_count j) (sym h.instance) within

  pub process_there : (p : ℕ) → StandFor cells i a0 a → p < process_count i → p < process_count cells.inst.now.tables
  process_there p h within = subst (λ (j : Tables). p < process_count j) (sym h.instance) within

  pub machine_there : (m : ℕ) → StandFor cells i a0 a → m < machine_count i → m < machine_count cells.inst.now.tables
  machine_there m h within = subst (λ (j : Tables). m < machine_count j) (sym h.instance) within

-- what the one that holds the assignment needs
pub ruleset standing = (placed, service_there, process_there, machine_there)
