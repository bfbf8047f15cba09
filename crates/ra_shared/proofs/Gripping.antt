-- The guards that a pass has locked for a move, and what they say of the history.
use Rattle.std.proofs.Common.{◌≡◌, ℕ, suc, ◌+◌, ◌-◌, ◌<◌, ◌≤◌, not, eqb, Bool, true, false, cond, List, []}
use Rattle.std.proofs.Common.{◌∷◌, ◌++◌, length, All, Contains, get_or, Option, None, refl, ap}
use Rattle.std.proofs.Common.{sym, subst, ◌∙◌, ⊎_elim, arith}
use Rattle.std.proofs.lemmas.Bool.{cases_lt, cases_Bool, or_left, both_ways, ltb-true, eq-eqb, ne_eqb}
use Rattle.std.proofs.lemmas.List.{append-nil, length_push, get_or_default}
use Rattle.std.proofs.lemmas.List.Elements.{All-push, All-contains, Contains-get_or, Contains-append_left}
use Rattle.std.proofs.lemmas.List.Elements.{Contains-push, filter-append, All-head, All-tail}
use Rattle.ra_base.specs.declared.ids.Guard.{Guard}
use Rattle.ra_base.specs.declared.ids.Guard.TheVariants as guard
use Rattle.ra_base.proofs.Greatest.{greatest_at, greatest_least}
use Rattle.ra_model.specs.declared.raw.Tables.{Tables}
use Rattle.ra_model.specs.Limits.{WellFormed}
use Rattle.ra_model.specs.Numbers.{machine_count}
use Rattle.ra_moves.specs.declared.steps.Step.{Step}
use Rattle.ra_moves.specs.declared.verdicts.Verdict.{Verdict}
use Rattle.ra_moves.specs.declared.verdicts.Verdict.TheVariants.{Done, Refused}
use Rattle.ra_guards.specs.Guards.{AreWithin, writes, reads, is_guard}
use Rattle.ra_guards.specs.Order.{IsKnown, guard_at, guard_of, is_before, AreWrites}
use Rattle.ra_guards.specs.Versions.{made_at, touches, stamp, version}
use Rattle.ra_guards.proofs.NewestLemmas.{guard_known}
use Rattle.ra_guards.proofs.OrderLemmas.{guard_below, guard_above, known_number}
use Rattle.ra_guards.proofs.TouchLemmas.{stamp_touched, stamp_untouched}
use Rattle.ra_journal.specs.declared.entries.Entry.{Entry}
use Rattle.ra_journal.specs.Committing.{newer_since, AreHeld}
use Rattle.ra_journal.specs.Entries.{entry_at, made_in, made_by, steps_made}
use Rattle.ra_journal.proofs.EndLemmas.{untouched_since}
use Rattle.ra_journal.proofs.Places.{made_place}
use Rattle.ra_turn.specs.declared.sight.Grip.{Grip}
use Rattle.ra_turn.specs.Notes.{grip, without, touching, TouchedAt, OnlyBy, ShutBy, HoldsAll}
use Rattle.ra_shared.specs.declared.books.Opened.{Opened}
use Rattle.ra_shared.specs.Books.{entry_touches}
use Rattle.ra_shared.specs.Holding.{number_at, HoldsFirst, HoldsWrites}
use Rattle.ra_shared.specs.Numbers.{guard_count, number_of_guard, touches_number}
use Rattle.ra_shared.proofs.Agree.{none_above, touches_agree}
use Rattle.ra_shared.proofs.Own.{entry_get, get_entry}

module _ (i : Tables) where
  -- a write guard is one of the instance
  pub written_known : (steps : List Step) (g : Guard) → WellFormed i → AreWithin i steps →
      writes i steps g ≡ true → IsKnown i g
  unfolding is_guard
  written_known steps g limits within written =
      guard_known i steps g limits within (or_left (writes i steps g) (reads i steps g) written)

  -- its number is below the guard count
  pub number_below : (g : Guard) → IsKnown i g → number_of_guard i g < guard_count i
  unfolding IsKnown number_of_guard guard_count
  number_below (guard.Machine m) known = omega (arith, known)
  number_below (guard.Service s) known = omega (arith, known)

  -- an earlier guard has a smaller number
  before_less : (g h : Guard) → IsKnown i g → is_before g h ≡ true →
      number_of_guard i g < number_of_guard i h
  unfolding IsKnown number_of_guard is_before
  before_less (guard.Machine m) (guard.Machine n) known before = ltb-true m.0 n.0 before
  before_less (guard.Machine m) (guard.Service s) known before = omega (arith, known)
  before_less (guard.Service s) (guard.Machine m) known before = absurd (cc before)
  before_less (guard.Service s) (guard.Service t) known before = omega (arith, ltb-true s.0 t.0 before)

  number_back : (n : ℕ) → number_of_guard i (guard_of (machine_count i) n) ≡ n
  unfolding number_of_guard
  number_back n = grind (arith, guard_below, guard_above)

  number_known : (n : ℕ) → n < guard_count i → IsKnown i (guard_of (machine_count i) n)
  unfolding guard_count
  number_known n below = known_number i n below

-- the guard whose number is touched
pub record IsTouchedGuard (i : Tables) (made : Option (List Step)) (n : ℕ) : Type 0 where
  pub guard : Guard
  pub number : number_of_guard i guard ≡ n
  pub touched : touches i made guard ≡ true

module _ (i : Tables) where
  -- a number that is touched is one of a guard
  touched_guard : (made : Option (List Step)) (n : ℕ) → touches_number i made n ≡ true →
      IsTouchedGuard i made n
  touched_guard made n is = ⊎_elim
      (λ (below : n < guard_count i).
      let g = guard_of (machine_count i) n in
      let number = number_back i n in
      record {
        guard = g;
        number = number;
        touched = sym (touches_agree i made g (number_known i n below)) ∙ (ap (touches_number i made) number ∙ is);
      })
      (λ (above : guard_count i ≤ n). absurd (both_ways (touches_number i made n) (none_above i made n above) is))
      (cases_lt n (guard_count i))

  -- what an entry touches its move writes
  verdict_writes : (verdict : Verdict) (steps : List Step) (g : Guard) →
      touches i (steps_made verdict steps) g ≡ true → writes i steps g ≡ true
  unfolding touches steps_made
  verdict_writes (Done cost) steps g is = is
  verdict_writes (Refused cause) steps g is = absurd (cc is)

  entry_writes : (e : Entry) (g : Guard) → touches i (made_by e) g ≡ true → writes i e.mv.steps g ≡ true
  unfolding made_by
  entry_writes e g is = verdict_writes e.verdict e.mv.steps g is

-- the entry of a move whose write guards are locked touches none but these
pub holds_touched : (o : Opened) (e : Entry) (q : ℕ) (grips : List Grip) →
    HoldsWrites o.inst.tables e.mv.steps q grips → HoldsAll entry_touches o grips e
holds_touched o e q grips holds n is =
    let t = touched_guard o.inst.tables (made_by e) n is in
    let held = holds.each t.guard (entry_writes o.inst.tables e t.guard t.touched) in
    (held.0, subst (λ (m : ℕ). Contains grips (grip m held.0)) t.number held.2)

-- holding guard after guard
module _ (i : Tables) (steps : List Step) (guards : List Guard) (q : ℕ) (limits : WellFormed i)
    (within : AreWithin i steps) (are : AreWrites i steps guards) where
  pub listed_known : (k : ℕ) → k < length guards → IsKnown i (guard_at guards k)
  unfolding guard_at
  listed_known k lt = written_known i steps (guard_at guards k) limits within
      ((are.exactly (guard_at guards k)).0 (Contains-get_or guards k _ lt))

  pub listed_written : (k : ℕ) → k < length guards → writes i steps (guard_at guards k) ≡ true
  unfolding guard_at
  listed_written k lt = (are.exactly (guard_at guards k)).0 (Contains-get_or guards k _ lt)

  pub holds_none : HoldsFirst i guards q 0 []
  holds_none = grind arith

  pub holds_more : (k : ℕ) (grips : List Grip) (v : ℕ) → HoldsFirst i guards q k grips → k < length guards → v ≤ q →
      HoldsFirst i guards q (k + 1) (grips ++ grip (number_at i guards k) v ∷ [])
  holds_more k grips v holds lt le =
      let new : Grip = grip (number_at i guards k) v in
      record {
        count = omega (arith, length_push grips new, holds.count);
        held = λ j below. ⊎_elim
            (λ (before : j < k). let h = holds.held j before in
            (h.0, h.1, Contains-append_left grips (new ∷ []) (grip (number_at i guards j) h.0) h.2))
            (λ (after : k ≤ j). let here : k ≡ j = omega arith in (
              v,
              le,
              subst (λ (m : ℕ). Contains (grips ++ new ∷ []) (grip (number_at i guards m) v)) here
                  (Contains-push grips new),
            ))
            (cases_lt j k);
        below = λ j ge inside. All-push (λ g. g.guard < number_at i guards j) grips new
            (holds.below j (omega arith) inside)
            (before_less i (guard_at guards k) (guard_at guards j) (listed_known k lt)
            (are.ascend k j (omega arith) inside));
      }

  pub holds_all : (k : ℕ) (grips : List Grip) → HoldsFirst i guards q k grips → k ≡ length guards →
      HoldsWrites i steps q grips
  unfolding guard_at
  holds_all k grips holds all = record {
    each = λ g written. (let has = (are.exactly g).1 written in
        let h = holds.held has.0 (let b = has.1 in omega arith) in (
          h.0,
          h.1,
          subst (λ x. Contains grips (grip (number_of_guard i x) h.0)) (listed has.0 g has.1 has.2)
              h.2,
        ));
  }
    where
      listed : (j : ℕ) (g : Guard) → j < length guards → get_or guards j g ≡ g → guard_at guards j ≡ g
      listed j g lt is = get_or_default guards j _ g lt ∙ is

-- a guard that comes after all others is unlocked, and the others stay locked
kept_grip : (b : Bool) (k : Grip) (ks ls : List Grip) → b ≡ false → ls ≡ ks → cond (not b) (k ∷ ls) ls ≡ k ∷ ks
kept_grip true k ks ls e same = absurd (cc e)
kept_grip false k ks ls e same = ap (λ xs. k ∷ xs) same

without_other : (n : ℕ) (ks : List Grip) → All (λ k. k.guard < n) ks → without n ks ≡ ks
without_other n [] all = refl
without_other n (k ∷ ks) all =
    let less : k.guard < n = All-head (λ (g : Grip). g.guard < n) k ks all in
    kept_grip (eqb k.guard n) k ks (without n ks) (ne_eqb k.guard n (λ e. omega arith))
    (without_other n ks (All-tail (λ (g : Grip). g.guard < n) k ks all))

pub without_last : (n v : ℕ) (ks : List Grip) → All (λ k. k.guard < n) ks → without n (ks ++ grip n v ∷ []) ≡ ks
without_last n v ks all = grind (arith, filter-append, eq-eqb, append-nil, without_other)

-- what the entries of a history do to a guard, by its number
module _ (o : Opened) (h : List Entry) (g : Guard) (known : IsKnown o.inst.tables g) where
  abbrev i : Tables
  i = o.inst.tables

  abbrev pub touched_by : Entry → Bool
  touched_by = touching entry_touches o (number_of_guard o.inst.tables g)

  same_touch : (j : ℕ) → touches i (made_at (made_in h) j) g ≡ touched_by (entry_at h j)
  same_touch j = grind (arith, i, made_place, touches_agree)

  pub touched_stamp : (j : ℕ) → TouchedAt touched_by h j → stamp i (made_in h) g j ≡ suc j
  touched_stamp j t = grind (arith, stamp_touched, i, same_touch, touched_by, get_entry)

  -- if only worker w's entries touch it from a place on that isn't after q, and all of these are before q, its version
  -- is at most q
  pub held_version : (w q v : ℕ) → v ≤ q → OnlyBy touched_by (λ (e : Entry). e.worker) w h v →
      ((j : ℕ) → j < length h → (entry_at h j).worker ≡ w → j < q) → version i (made_in h) (length h) g ≤ q
  unfolding version
  held_version w q v le only before = greatest_least (length h) q (stamp i (made_in h) g) (λ j lt. ⊎_elim
      (λ (touched : touches i (made_at (made_in h) j) g ≡ true). ⊎_elim
      (λ (early : j < q). omega (arith, stamp_touched i (made_in h) g j touched))
      (λ (late : q ≤ j).
      let early = before j lt
      (only j (entry_at h j) (omega arith) (entry_get h j lt) (sym (same_touch j) ∙ touched)) in
      absurd (omega arith))
      (cases_lt j q))
      (λ (untouched : touches i (made_at (made_in h) j) g ≡ false).
      omega (arith, stamp_untouched i (made_in h) g j untouched))
      (cases_Bool (touches i (made_at (made_in h) j) g)))

  -- if an entry at place q or later touches a write guard of a move, some guard of it is newer
  pub newer_there : (q v : ℕ) (steps : List Step) → WellFormed i → AreWithin i steps → writes i steps g ≡ true → q < v →
      v - 1 < length h → TouchedAt touched_by h (v - 1) → newer_since i h q steps ≡ None → ⊥
  unfolding version is_guard
  newer_there q v steps limits within written above inside t none =
      let quiet = (untouched_since i h q steps limits within none).each g
      (or_left (writes i steps g) (reads i steps g) written) in
      let most = greatest_at (length h) (v - 1) (stamp i (made_in h) g) inside in
      omega (arith, touched_stamp (v - 1) t)

-- no write guard of a move was touched since place q, if all are locked and the worker's own entries are before q
pub are_held : (o : Opened) (h : List Entry) (w q : ℕ) (steps : List Step) (grips : List Grip) →
    WellFormed o.inst.tables → AreWithin o.inst.tables steps → HoldsWrites o.inst.tables steps q grips
    → ShutBy entry_touches o (λ (e : Entry). e.worker) w h grips →
    ((j : ℕ) → j < length h → (entry_at h j).worker ≡ w → j < q) → AreHeld o.inst.tables h q steps
are_held o h w q steps grips limits within holds shut before = record {
  each = λ g written. (let held = holds.each g written in
      let only = All-contains (λ k. OnlyBy (touching entry_touches o k.guard) (λ (e : Entry). e.worker) w h k.version)
      grips (grip (number_of_guard o.inst.tables g) held.0) shut held.2 in
      held_version o h g (written_known o.inst.tables steps g limits within written) w q held.0 held.1 only before);
}
