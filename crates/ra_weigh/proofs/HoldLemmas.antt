-- What a move can't break holds if each step keeps it: capacity on machines that are entered, conflict of a process
-- that enters a machine, spread of services that move, and closed machines of processes that move.
use Rattle.std.proofs.Common.{◌≡◌, ◌≢◌, ◌↔◌, ℕ, ◌+◌, ◌<◌, ◌≤◌, Bool, true, false, not, is_some, eqb, nat_le, ◌&&◌, List, Option, Some, None, length, sym, refl, ap, ◌∙◌, arith, ne_eqb, le-ltb}
use Rattle.std.proofs.lemmas.Bool.{and_left, and_right, and_parts, or_from, ltb-false, eqb-true, both_ways, leb-true, le-leb}
use Rattle.ra_base.specs.Sums.{is_named}
use Rattle.ra_base.specs.Searches.{or_else, first}
use Rattle.ra_base.specs.declared.ids.Machine.{Machine}
use Rattle.ra_base.specs.declared.causes.Cause.{Cause}
use Rattle.ra_base.proofs.Sums.{total_zero, total_le, total_only}
use Rattle.ra_base.proofs.Counts.{one_if_false, one_if_le, count_zero_at, count_positive}
use Rattle.ra_base.proofs.Named.{is_named_at, is_named_from}
use Rattle.ra_base.proofs.Searches.{first_none_at, first_none_from, or_else_none, or_else_some}
use Rattle.ra_model.specs.declared.raw.Tables.{Tables}
use Rattle.ra_model.specs.Numbers.{resource_count, machine_count, service_count, transient_at, capacity_of}
use Rattle.ra_model.specs.Usage.{use_of, transient_share, transient_of}
use Rattle.ra_model.specs.Services.{is_of, of_service, members_at, on_machine}
use Rattle.ra_model.specs.Broken.{capacity_test, row_capacity, transient_test, row_transient, conflict_test, service_conflict, broken_conflict, spread_test}
use Rattle.ra_model.proofs.BrokenLemmas.{Fine, cause_none, cause_free, capacity_met, transient_met}
use Rattle.ra_moves.specs.declared.steps.Step.{Step}
use Rattle.ra_moves.specs.Steps.{process_in, to_in}
use Rattle.ra_moves.specs.Replacing.{applied}
use Rattle.ra_moves.specs.Values.{gone, come}
use Rattle.ra_model.proofs.TallyLemmas.{use_share_elsewhere}
use Rattle.ra_moves.specs.Touched.{service_in, moves_service}
use Rattle.ra_moves.specs.Moving.{IsMove}
use Rattle.ra_moves.specs.Laws.{OnlyWhere, AreLocal}
use Rattle.ra_moves.proofs.StayLemmas.{tally_applied, of_other}
use Rattle.ra_weigh.specs.Flowing.{MoveAlone}

-- nothing is found at the first n names
pub record NoneAt (f : ℕ → Option Cause) (e : ℕ → ℕ) (n : ℕ) : Type 0 where
  pub each : (j : ℕ) → j < n → f (e j) ≡ None

module _ (f : ℕ → Option Cause) (e : ℕ → ℕ) where
  pub none_start : NoneAt f e 0
  none_start = record { each = λ j before. absurd (omega arith) }

  pub none_more : {n : ℕ} (x : ℕ) → NoneAt f e n → e n ≡ x → f x ≡ None → NoneAt f e (n + 1)
  none_more {n} x so_far is here = grind arith

-- so nothing is found at all, if something is found at names alone
pub none_all : {m n k : ℕ} {f : ℕ → Option Cause} {e : ℕ → ℕ} → OnlyWhere m (is_named n e) f → k ≡ n → NoneAt f e k →
    first m f ≡ None
none_all {m} {n} {f} {e} only all none = grind (arith, first_none_from, is_named_from)

-- an answer that is true, and one that is false
pub told_true : {P : Type 0} → P → (true ≡ true) ↔ P
told_true holds = (λ same. holds, λ fact. refl)

pub told_false : {P : Type 0} → (P → ⊥) → (false ≡ true) ↔ P
told_false fails = (λ same. absurd (cc), λ fact. absurd (fails fact))

pub told_if_none : (o p : Option Cause) (told : Bool) → is_some o ≡ not told → o ≡ p → (told ≡ true) ↔ (p ≡ None)
told_if_none None p true is same = (λ yes. sym same, λ none. refl)
told_if_none None p false is same = absurd (cc)
told_if_none (Some x) p true is same = absurd (cc)
told_if_none (Some x) p false is same = (λ yes. absurd (cc), λ none. absurd (cc (same, none)))

pub found_somewhere : (m x : ℕ) (f : ℕ → Option Cause) → x < m → f x ≢ None → first m f ≡ None → ⊥
found_somewhere m x f within some none = some (first_none_at x m f within none)

not_named : (n : ℕ) (e : ℕ → ℕ) (m : ℕ) → is_named n e m ≡ false → (j : ℕ) → j < n → e j ≢ m
not_named n e m none j within same = both_ways (is_named n e m) none (is_named_at n j e m within same)

-- the process of no step so far enters a machine that has another one of its service
pub record NoConflict (i : Tables) (b : List Machine) (steps : List Step) (n : ℕ) : Type 0 where
  pub each : (j : ℕ) → j < n → conflict_test i b (service_in i steps j) (to_in steps j) ≡ None

module _ (i : Tables) where
  module _ (b : List Machine) (steps : List Step) where
    pub conflict_start : NoConflict i b steps 0
    conflict_start = record { each = λ j before. absurd (omega arith) }

    pub conflict_more : (n s m : ℕ) → NoConflict i b steps n → service_in i steps n ≡ s → to_in steps n ≡ m →
        conflict_test i b s m ≡ None → NoConflict i b steps (n + 1)
    conflict_more n s m so_far s_is m_is here = grind arith

  module _ {a : List Machine} {steps : List Step} where
    -- capacity

    use_falls : (m r : ℕ) → IsMove i a steps → ((j : ℕ) → j < length steps → to_in steps j ≢ m) →
        use_of i (applied a steps) m r ≤ use_of i a m r
    unfolding use_of come
    use_falls m r move apart = grind (arith, tally_applied, total_zero, use_share_elsewhere)

    -- conflict

    -- no process of a service enters a machine
    on_machine_falls : (s m : ℕ) → IsMove i a steps →
        ((j : ℕ) → j < length steps → (eqb (service_in i steps j) s && eqb (to_in steps j) m) ≡ false) →
        on_machine i (applied a steps) s m ≤ on_machine i a s m
    unfolding on_machine members_at come of_service is_of service_in
    on_machine_falls s m move apart = grind (arith, tally_applied, total_zero, one_if_false)

  module _ (a : List Machine) (s m : ℕ) where
    conflict_few : broken_conflict i a ≡ None → s < service_count i → m < machine_count i → on_machine i a s m ≤ 1
    unfolding broken_conflict service_conflict conflict_test
    conflict_few none s_in m_in =
        ltb-false 1 (on_machine i a s m)
        (cause_none _ _
        (first_none_at m _ _ m_in (first_none_at s _ _ s_in none)))

    conflict_free : on_machine i a s m ≤ 1 → conflict_test i a s m ≡ None
    unfolding conflict_test
    conflict_free few = cause_free _ _ (le-ltb 1 (on_machine i a s m) few)

  -- a process that comes where none of its service was, and no other of it moves
  pub conflict_alone : (a : List Machine) (steps : List Step) (j s m n : ℕ) → IsMove i a steps → j < length steps →
      MoveAlone i steps j s (length steps) → n ≡ on_machine i a s m → n ≡ 0 →
      conflict_test i (applied a steps) s m ≡ None
  unfolding on_machine members_at come of_service service_in
  conflict_alone a steps j s m n move within alone n_is none =
      let f = of_service i s (λ p at. eqb at m) in
      conflict_free _ s m
      (omega (
        arith,
        n_is,
        none,
        tally_applied i a steps f move,
        total_only (length steps) j (come f steps) within
            (λ k below apart. of_other i s (λ p at. eqb at m) _ _
            (alone.others k below apart)),
        one_if_le (is_of i s (process_in steps j) && eqb (to_in steps j) m),
      ))

  module _ (a0 : List Machine) where
    -- transient use

    transient_no_more : (m r p at to : ℕ) → to ≢ m → transient_share i a0 m r p to ≤ transient_share i a0 m r p at
    unfolding transient_share
    transient_no_more m r p at to apart = grind (arith, or_from)

    module _ {a : List Machine} {steps : List Step} (m r : ℕ) (move : IsMove i a steps) where
      transient_falls : ((j : ℕ) → j < length steps → to_in steps j ≢ m) →
          transient_of i a0 (applied a steps) m r ≤ transient_of i a0 a m r
      unfolding transient_of come gone
      transient_falls apart = grind (arith, tally_applied, total_le, transient_no_more)

      transient_fits : Fine i a0 a → m < machine_count i → r < resource_count i →
          is_named (length steps) (to_in steps) m ≡ false → transient_at i r ≡ true →
          transient_of i a0 (applied a steps) m r ≤ capacity_of i m r
      transient_fits fine m_in r_in none twice =
          omega (
            arith,
            transient_falls (not_named _ _ m none),
            transient_met i a0 a fine.transient m r m_in r_in twice,
          )

    transient_free : (b : List Machine) (m r : ℕ) →
        (transient_at i r ≡ true → transient_of i a0 b m r ≤ capacity_of i m r) → transient_test i a0 b m r ≡ None
    unfolding transient_test
    transient_free b m r fits = grind (arith, cause_free, and_right, le-ltb, and_left)

    module _ {a : List Machine} {steps : List Step} (move : IsMove i a steps) (fine : Fine i a0 a) where
      pub transient_entered : OnlyWhere (machine_count i) (is_named (length steps) (to_in steps)) (row_transient i a0
          (applied a steps))
      unfolding row_transient
      transient_entered = grind (arith, first_none_from, transient_free, transient_fits)

      pub capacity_entered : OnlyWhere (machine_count i) (is_named (length steps) (to_in steps)) (row_capacity i
          (applied a steps))
      unfolding row_capacity capacity_test
      capacity_entered = record {
        others = λ m m_in none. first_none_from _ _
            (λ r r_in. cause_free _ _
            (le-ltb _ _ (omega (
              arith,
              use_falls m r move (not_named _ _ m none),
              capacity_met i a fine.capacity m r m_in r_in,
            ))));
      }

    module _ {a : List Machine} {steps : List Step} where
      conflict_at : (s m : ℕ) → IsMove i a steps → Fine i a0 a → NoConflict i (applied a steps) steps (length steps) →
          s < service_count i → m < machine_count i → conflict_test i (applied a steps) s m ≡ None
      conflict_at s m move fine none s_in m_in =
          grind (arith, count_positive, and_parts, eqb-true, conflict_free, on_machine_falls, count_zero_at, conflict_few)

      pub conflict_all : (n : ℕ) → IsMove i a steps → Fine i a0 a → n ≡ length steps →
          NoConflict i (applied a steps) steps n → broken_conflict i (applied a steps) ≡ None
      unfolding broken_conflict service_conflict
      conflict_all n move fine all none = grind (arith, first_none_from, conflict_at)

      pub conflict_entered : (s : ℕ) → IsMove i a steps → Fine i a0 a → s < service_count i →
          OnlyWhere (machine_count i) (is_named (length steps) (to_in steps)) (conflict_test i (applied a steps) s)
      conflict_entered s move fine s_in = record {
        others = λ m m_in none. conflict_free _ s m
            (omega (
              arith,
              on_machine_falls s m move
                  (λ j within. and_right _ _
                  (ne_eqb (to_in steps j) m (not_named _ _ m none j within))),
              conflict_few a s m fine.conflict s_in m_in,
            ));
      }

  pub conflict_nowhere : (b : List Machine) (s m : ℕ) → s < service_count i → m < machine_count i →
      broken_conflict i b ≡ None → conflict_test i b s m ≡ None
  unfolding broken_conflict service_conflict
  conflict_nowhere b s m s_in m_in none =
      first_none_at m _ _ m_in (first_none_at s _ _ s_in none)

pub found_there : (m x : ℕ) (f : ℕ → Option Cause) (cause : Cause) → x < m → Some cause ≡ f x → first m f ≡ None → ⊥
found_there m x f cause within is none = absurd (cc (is, first_none_at x m f within none))

-- spread, by the names of the services that move
pub spread_moved : {i : Tables} {a0 b : List Machine} {steps : List Step} → AreLocal i a0 b steps →
    OnlyWhere (service_count i) (is_named (length steps) (service_in i steps)) (spread_test i b)
unfolding moves_service
spread_moved local = record { others = λ s within none. local.spread.others s within none }

-- one search after another

pub found_first : {a : Option Cause} (b : Option Cause) (x : Cause) → Some x ≡ a → Some x ≡ or_else a b
found_first b x is = sym (ap (λ c. or_else c b) (sym is) ∙ or_else_some x b)

pub found_later : {a b y : Option Cause} → None ≡ a → y ≡ b → y ≡ or_else a b
found_later {b} none is = is ∙ sym (ap (λ c. or_else c b) (sym none) ∙ or_else_none b)

-- a first search that finds something
pub found_at_once : {a : Option Cause} (b : Option Cause) {y : Option Cause} → (a ≡ None → ⊥) → y ≡ a → y ≡ or_else a b
found_at_once {a = None} b some is = absurd (some refl)
found_at_once {a = Some x} b some is = is ∙ sym (or_else_some x b)

-- a comparison that tells
pub told_le : {P : Type 0} → (x y : ℕ) → (x ≤ y → P) → (y < x → P → ⊥) → (nat_le x y ≡ true) ↔ P
told_le x y holds fails = grind (arith, leb-true, le-leb)
