-- More flags block more, so rounds only add, and as many rounds as there are processes add all that any number adds.
use Rattle.std.proofs.Common.{◌≡◌, ◌≢◌, ℕ, zero, suc, ◌<◌, ◌≤◌, ◌⊎◌, inl, inr, ⊎_elim, Bool, true, false, not}
use Rattle.std.proofs.Common.{◌&&◌, ◌||◌, List, refl, sym, ap, ◌∙◌, arith, eq-eqb}
use Rattle.std.proofs.lemmas.Bool.{cases_lt, or_cases, and_cases, and_parts, and_from, and_left}
use Rattle.std.proofs.lemmas.Bool.{and_right, or_left, or_right, not_from_true, not-false, not-true, both_ways}
use Rattle.std.proofs.lemmas.Bool.{lt-ltb, ltb-true, eqb-true, false_from_ne_true, true≢false}
use Rattle.ra_base.specs.Sums.{count, one_if}
use Rattle.ra_base.specs.declared.ids.Machine.{Machine}
use Rattle.ra_base.proofs.Sums.{total_lt}
use Rattle.ra_base.proofs.Counts.{one_if_true, one_if_false, one_if_order, count_some, count_positive, count_zero}
use Rattle.ra_base.proofs.Counts.{count_zero_at, count_parts}
use Rattle.ra_model.specs.declared.raw.Tables.{Tables}
use Rattle.ra_model.specs.Numbers.{resource_count, machine_count, process_count, requirement_of, closed_at}
use Rattle.ra_model.specs.Numbers.{service_of}
use Rattle.ra_model.specs.Assignments.{machine_at}
use Rattle.ra_model.proofs.TallyLemmas.{tally_le}
use Rattle.ra_pins.specs.Pinned.{some_of, flagged_share, flagged_use, lacks, lacks_between, holds, flagged_starts_on}
use Rattle.ra_pins.specs.Pinned.{blocked}
use Rattle.ra_pins.specs.Pinned.{is_open, stuck, round, rounds, is_pinned}
use Rattle.ra_pins.specs.Laws.{RoundsOnlyAdd}

module _ (n : ℕ) where
  -- some of them

  pub some_yes : (k : ℕ) (test : ℕ → Bool) → k < n → test k ≡ true → some_of n test ≡ true
  unfolding some_of
  some_yes k test within passes = lt-ltb 0 (count n test) (count_some n k test within passes)

  pub some_found : (test : ℕ → Bool) → some_of n test ≡ true → (k : ℕ) × (k < n) × (test k ≡ true)
  unfolding some_of
  some_found test found = count_positive n test (ltb-true 0 (count n test) found)

  pub some_no : (test : ℕ → Bool) → ((k : ℕ) → k < n → test k ≡ false) → some_of n test ≡ false
  some_no test nones = grind (arith, false_from_ne_true, some_found)

  pub some_order : (s t : ℕ → Bool) → ((k : ℕ) → k < n → s k ≡ true → t k ≡ true) → some_of n s ≡ true →
      some_of n t ≡ true
  some_order s t each e = let found = some_found s e in some_yes found.0 t found.1 (each found.0 found.1 found.2)

-- two tests of which each gives the other are one
pub same_tests : (s t : Bool) → (s ≡ true → t ≡ true) → (t ≡ true → s ≡ true) → s ≡ t
same_tests true t there back = sym (there refl)
same_tests false t there back = sym (false_from_ne_true t (λ e. true≢false (sym (back e))))

-- of the processes that start on machine m, those that x flags are flagged by y
pub record BelowAt (i : Tables) (a0 : List Machine) (m : ℕ) (x y : ℕ → Bool) : Type 0 where
  pub each : (z : ℕ) → z < process_count i → machine_at a0 z ≡ m → x z ≡ true → y z ≡ true

-- all that x flags are flagged by y
pub record Below (i : Tables) (x y : ℕ → Bool) : Type 0 where
  pub each : (z : ℕ) → z < process_count i → x z ≡ true → y z ≡ true

-- why a process is blocked
pub data Why (i : Tables) (a0 : List Machine) (x : ℕ → Bool) (p m : ℕ) : Type 0 where
  shut : closed_at i m ≡ true → Why i a0 x p m
  full : some_of (resource_count i) (lacks i a0 x p m) ≡ true → Why i a0 x p m
  between : some_of (resource_count i) (lacks_between i a0 p m) ≡ true → Why i a0 x p m
  twin : flagged_starts_on i a0 x (service_of i p) m ≡ true → Why i a0 x p m

-- rounds

pub rounds_only_add : RoundsOnlyAdd
unfolding round
rounds_only_add i a0 x p e = or_left _ _ e

-- a round adds nothing to these flags
abbrev pub IsClosed : Tables → List Machine → (ℕ → Bool) → Type 0
IsClosed i a0 x = Below i (round i a0 x) x

-- a process that round n + 1 adds
new_in : Tables → List Machine → ℕ → ℕ → Bool
new_in i a0 n p = round i a0 (rounds i a0 n) p && not (rounds i a0 n p)

all_flagged : (n : ℕ) (test : ℕ → Bool) (p : ℕ) → n ≤ count n test → p < n → test p ≡ true
all_flagged n test p many within =
    not-false _ (count_zero_at n p (λ k. not (test k)) (omega (arith, count_parts)) within)

module _ (i : Tables) (x : ℕ → Bool) (m : ℕ) where
  module _ (r z at : ℕ) where
    -- shares of flagged processes

    pub flagged_share_yes : x z ≡ true → at ≡ m → flagged_share i x m r z at ≡ requirement_of i z r
    unfolding flagged_share
    flagged_share_yes flag here = grind (arith, and_from, eq-eqb)

    pub flagged_share_free : x z ≡ false → flagged_share i x m r z at ≡ 0
    unfolding flagged_share
    flagged_share_free flag = grind (arith, and_left)

    pub flagged_share_elsewhere : at ≢ m → flagged_share i x m r z at ≡ 0
    unfolding flagged_share
    flagged_share_elsewhere apart = grind (arith, and_right)

module _ (i : Tables) (a0 : List Machine) where
  pub at_machine : (m : ℕ) (x y : ℕ → Bool) → Below i x y → BelowAt i a0 m x y
  at_machine m x y below = record { each = λ z h here flag. below.each z h flag }

  module _ (m r : ℕ) (x y : ℕ → Bool) where
    share_more : (z : ℕ) → BelowAt i a0 m x y → z < process_count i →
        flagged_share i x m r z (machine_at a0 z) ≤ flagged_share i y m r z (machine_at a0 z)
    share_more z below h = grind (arith, flagged_share_yes, flagged_share_elsewhere, flagged_share_free)

    pub flagged_more : BelowAt i a0 m x y → flagged_use i a0 x m r ≤ flagged_use i a0 y m r
    unfolding flagged_use
    flagged_more below = grind (arith, tally_le, share_more)

  lacks_more : (m p r : ℕ) (x y : ℕ → Bool) → BelowAt i a0 m x y → lacks i a0 x p m r ≡ true → lacks i a0 y p m r ≡ true
  unfolding lacks
  lacks_more m p r x y below e = grind (arith, lt-ltb, ltb-true, flagged_more)

  holds_more : (s m z : ℕ) (x y : ℕ → Bool) → BelowAt i a0 m x y → z < process_count i → holds i a0 x s m z ≡ true →
      holds i a0 y s m z ≡ true
  unfolding holds
  holds_more s m z x y below h e = grind (arith, and_parts, and_from, eqb-true)

  pub taken_more : (s m : ℕ) (x y : ℕ → Bool) → BelowAt i a0 m x y → flagged_starts_on i a0 x s m ≡ true →
      flagged_starts_on i a0 y s m ≡ true
  unfolding flagged_starts_on
  taken_more s m x y below e = grind (arith, some_order, holds_more)

  module _ (x : ℕ → Bool) (p m : ℕ) where
    pub why_blocked : blocked i a0 x p m ≡ true → Why i a0 x p m
    unfolding blocked
    why_blocked e = ⊎_elim (λ a. shut a)
        (λ rest. ⊎_elim (λ b. full b)
        (λ last. ⊎_elim (λ c. between c) (λ d. twin d)
        (or_cases (some_of (resource_count i) (lacks_between i a0 p m))
        (flagged_starts_on i a0 x (service_of i p) m) last))
        (or_cases (some_of (resource_count i) (lacks i a0 x p m))
        (some_of (resource_count i) (lacks_between i a0 p m) || flagged_starts_on i a0 x (service_of i p) m) rest))
        (or_cases (closed_at i m)
        (some_of (resource_count i) (lacks i a0 x p m)
        || (some_of (resource_count i) (lacks_between i a0 p m) || flagged_starts_on i a0 x (service_of i p) m)) e)

    pub blocked_why : Why i a0 x p m → blocked i a0 x p m ≡ true
    unfolding blocked
    blocked_why (shut a) = or_left _ _ a
    blocked_why (full b) = or_right _ _ (or_left _ _ b)
    blocked_why (between c) =
        or_right _ _ (or_right (some_of (resource_count i) (lacks i a0 x p m)) _ (or_left _ _ c))
    blocked_why (twin d) =
        or_right _ _
        (or_right (some_of (resource_count i) (lacks i a0 x p m)) _
        (or_right (some_of (resource_count i) (lacks_between i a0 p m)) _ d))

  module _ (p m : ℕ) (x y : ℕ → Bool) (below : BelowAt i a0 m x y) where
    why_more : Why i a0 x p m → Why i a0 y p m
    why_more (shut a) = shut a
    why_more (full b) =
        full (some_order _ _ (lacks i a0 y p m) (λ r h. lacks_more m p r x y below)
        b)
    why_more (between c) = between c
    why_more (twin d) = twin (taken_more _ m x y below d)

    pub blocked_more : blocked i a0 x p m ≡ true → blocked i a0 y p m ≡ true
    blocked_more e = grind (arith, blocked_why, why_more, why_blocked)

  -- flags of processes that start elsewhere don't matter
  pub blocked_same : (p m : ℕ) (x y : ℕ → Bool) → BelowAt i a0 m x y → BelowAt i a0 m y x →
      blocked i a0 x p m ≡ blocked i a0 y p m
  blocked_same p m x y there back = grind (arith, same_tests, blocked_more)

  module _ (x : ℕ → Bool) (p : ℕ) where
    -- stuck: blocked from every other machine

    pub stuck_blocked : (m : ℕ) → stuck i a0 x p ≡ true → m < machine_count i → m ≢ machine_at a0 p →
        blocked i a0 x p m ≡ true
    unfolding stuck is_open
    stuck_blocked m e h apart = elim (and_cases _ _
        (count_zero_at _ m _
        (eqb-true (count (machine_count i) (is_open i a0 x p)) 0 e) h)) [
          | inl home ↦ absurd
              (apart (eqb-true m (machine_at a0 p) (not-false _ home)))
          | inr shut_now ↦ not-false _ shut_now
        ]

    not_open : (m : ℕ) → (m ≢ machine_at a0 p → blocked i a0 x p m ≡ true) → is_open i a0 x p m ≡ false
    unfolding is_open
    not_open m all = grind (arith, and_left, not_from_true, eq-eqb, and_right)

    pub stuck_from : ((m : ℕ) → m < machine_count i → m ≢ machine_at a0 p → blocked i a0 x p m ≡ true) →
        stuck i a0 x p ≡ true
    unfolding stuck
    stuck_from all = grind (arith, eq-eqb, count_zero, not_open)

  module _ (x : ℕ → Bool) where
    pub stuck_more : (y : ℕ → Bool) (p : ℕ) → Below i x y → stuck i a0 x p ≡ true → stuck i a0 y p ≡ true
    stuck_more y p below e =
        stuck_from y p
        (λ m h apart. blocked_more p m x y (at_machine m x y below) (stuck_blocked x p m e h apart))

    pub round_stuck : (p : ℕ) → stuck i a0 x p ≡ true → round i a0 x p ≡ true
    unfolding round
    round_stuck p e = or_right _ _ e

    pub round_cases : (p : ℕ) → round i a0 x p ≡ true → (x p ≡ true)
        ⊎ (stuck i a0 x p ≡ true)
    unfolding round
    round_cases p e = or_cases (x p) (stuck i a0 x p) e

  pub round_more : (x y : ℕ → Bool) → Below i x y → Below i (round i a0 x) (round i a0 y)
  round_more x y below = record {
    each = λ p h e. elim (round_cases x p e) [
      | inl flag ↦ rounds_only_add i a0 y p (below.each p h flag)
      | inr shut_now ↦ round_stuck y p (stuck_more x y p below shut_now)
    ];
  }

  pub rounds_none : (p : ℕ) → rounds i a0 zero p ≡ false
  unfolding rounds
  rounds_none p = refl

  pub rounds_next : (n : ℕ) → rounds i a0 (suc n) ≡ round i a0 (rounds i a0 n)
  unfolding rounds
  rounds_next n = refl

module _ (i : Tables) (a0 : List Machine) where
  closed_next : (n : ℕ) → IsClosed i a0 (rounds i a0 n) → IsClosed i a0 (rounds i a0 (suc n))
  closed_next n closed = rw rounds_next (round_more i a0 _ _ closed)

  closed_if_none : (n : ℕ) → count (process_count i) (new_in i a0 n) ≡ 0 → IsClosed i a0 (rounds i a0 n)
  unfolding new_in
  closed_if_none n none = record {
    each = λ p h e. elim (and_cases _ _
        (count_zero_at _ p _ none h)) [
          | inl old ↦ absurd (both_ways _ old e)
          | inr there ↦ not-false _ there
        ];
  }

  more_if_some : (n : ℕ) → 0 < count (process_count i) (new_in i a0 n) →
      count (process_count i) (rounds i a0 n) < count (process_count i) (rounds i a0 (suc n))
  unfolding new_in
  more_if_some n some =
      let found = count_positive _ _ some in
      let p = found.0 in
      let parts = and_parts (round i a0 (rounds i a0 n) p) (not (rounds i a0 n p)) found.2 in
      let after : rounds i a0 (suc n) p ≡ true = ap (λ (f : ℕ → Bool). f p) (rounds_next i a0 n) ∙ parts.0 in
      total_lt _ p (λ k. one_if (rounds i a0 n k)) (λ k. one_if (rounds i a0 (suc n) k)) found.1
      (omega (arith, one_if_false _ (not-true _ parts.1), one_if_true _ after))
      (λ k h. one_if_order _ _
      (λ e. ap (λ (f : ℕ → Bool). f k) (rounds_next i a0 n)
      ∙ rounds_only_add i a0 (rounds i a0 n) k e))

  -- n rounds flag at least n processes, or add nothing more
  rounds_close : (n : ℕ) → (n ≤ count (process_count i) (rounds i a0 n))
      ⊎ IsClosed i a0 (rounds i a0 n)
  rounds_close zero = inl (omega arith)
  rounds_close (suc n) = elim (rounds_close n) [
    | inl many ↦ elim (cases_lt 0 (count (process_count i) (new_in i a0 n))) [
      | inl some ↦ inl (omega (arith, more_if_some))
      | inr none ↦ inr (closed_next n (closed_if_none n (omega arith)))
    ]
    | inr closed ↦ inr (closed_next n closed)
  ]

  -- a round adds nothing to the pinned processes
  pub pinned_closed : IsClosed i a0 (is_pinned i a0)
  unfolding is_pinned
  pinned_closed = elim (rounds_close (process_count i)) [
    | inl many ↦ record {
      each = λ p h e. all_flagged (process_count i) _ p many h;
    }
    | inr closed ↦ closed
  ]

  module _ (x : ℕ → Bool) where
    -- what rounds flag is flagged by any flags to which a round adds nothing
    pub rounds_least : (n : ℕ) → IsClosed i a0 x → Below i (rounds i a0 n) x
    rounds_least zero closed = record { each = λ p h e. absurd (both_ways _ (rounds_none i a0 p) e) }
    rounds_least (suc n) closed = rw rounds_next (record {
      each = λ p h e. closed.each p h ((round_more i a0 _ x (rounds_least n closed)).each p h e);
    })

    -- a process that is stuck between pinned processes is pinned
    pub pinned_stuck : (p : ℕ) → Below i x (is_pinned i a0) → p < process_count i → stuck i a0 x p ≡ true →
        is_pinned i a0 p ≡ true
    pinned_stuck p below h e = grind (arith, pinned_closed, round_stuck, stuck_more)

    -- any flags to which a round adds nothing flag the pinned processes
    pub pinned_least : IsClosed i a0 x → Below i (is_pinned i a0) x
    unfolding is_pinned
    pinned_least closed = rounds_least _ closed

    -- pinned processes alone are flagged, and a round adds nothing: then exactly they are
    pub exact_from : (p : ℕ) → Below i x (is_pinned i a0) → IsClosed i a0 x → p < process_count i →
        x p ≡ is_pinned i a0 p
    exact_from p sound closed h = grind (arith, same_tests, pinned_least)
