-- What the rule of the table refuses, whatever a step tells its seat: a guard that stays taken without a holder, and a
-- turn that isn't passed on.
use Rattle.std.proofs.Common.{◌≡◌, ℕ, ◌+◌, ◌*◌, ◌==◌, ◌<◌, Bool, true, not, List, set, slice_index, Contains, refl}
use Rattle.std.proofs.Common.{ap, sym, ◌∙◌, ⊎_elim, eq-eqb, arith, Option}
use Rattle.std.proofs.lemmas.List.Elements.{All-contains}
use mathlib.Core.Option.{some}
use lib.ListN.{get_elem?}
use Rattle.atomic_table.specs.Table.{State}
use Rattle.atomic_table.proofs.Lists.{at_set}
use Rattle.ra_turn.specs.declared.sight.Grip.{Grip}
use Rattle.ra_turn.specs.declared.sight.Sight.{Sight}
use Rattle.ra_turn.specs.Stages.{HasTicket, IsServed}
use Rattle.ra_turn.specs.Notes.{grip, without}
use Rattle.ra_turn.specs.Locks.{Latch, Latched, HasGrip}
use Rattle.ra_turn.specs.Locks.Latch.{free, taken}
use Rattle.ra_turn.specs.Law.{Ruled}
use Rattle.ra_turn.proofs.Stages.{served_ticket}
use Rattle.ra_turn.proofs.Latches.{all_filter, latch_free}

-- a grip of the guard isn't among those of the others
without_has_none : (guard q : ℕ) (ks : List Grip) → Contains (without guard ks) (grip guard q) → ⊥
without_has_none guard q ks has =
    let test : Grip → Bool = λ k. not (k.guard == guard) in
    let all =
    all_filter test (λ k. Unit {0}) (λ k. test k ≡ true) ks (λ k u t. t) (λ k d lt. tt) in
    let passes = All-contains (λ k. test k ≡ true) _ _ all
    has in
    let clash : not true ≡ true = ap not (sym (eq-eqb guard guard refl)) ∙ passes in
    cc clash

module _ {N : Type 0} (touched : N → Bool) (author : N → ℕ) (history : List N) (word p : ℕ) where
  latch_odd : (latch : Latch) → Latched touched author history word latch → word ≡ 2 * p + 1 → (seat : ℕ) × (number : ℕ)
      × (latch ≡ taken seat number p)
  latch_odd (free v) l odd = absurd (let a = l.0 in omega arith)
  latch_odd (taken seat number v) l odd = (seat, number, ap (taken seat number) (omega arith))

module _ {V N O : Type 0} (opening : V → O) (notes : V → List N) (author : N → ℕ) (touches : O → N → ℕ → Bool)
    (passes turns guards : ℕ) (o : O) where
  abbrev Rule : State (Option V) (Sight N O) → Type 0
  Rule = Ruled opening notes author touches passes turns guards o

  -- a guard whose word is odd is locked, at half of the word
  pub odd_is_held : (s : State (Option V) (Sight N O)) (r : Rule s) (guard p : ℕ) → guard < guards →
      slice_index r.guard_words guard ≡ 2 * p + 1
      → (seat : ℕ) × (v : Sight N O) × HasGrip guard p v × (get_elem? s.views seat ≡ some v)
  odd_is_held s r guard p below odd =
      let l = r.locks in
      let t = latch_odd _ author r.scene.history _ p
      (l.latch guard) (l.shows guard below) odd in
      let h = l.holder guard t.0 t.1 p below t.2 in (t.0, h.0, h.1, h.2)

  -- a view that has a guard has it as the latch says
  latch_of : (s : State (Option V) (Sight N O)) (r : Rule s) (i : ℕ) (v : Sight N O) (guard p : ℕ) →
      get_elem? s.views i ≡ some v → Contains v.grips (grip guard p)
      → (guard < guards) × (r.locks.latch guard ≡ taken i v.own.number p)
  latch_of s r i v guard p at has =
      All-contains (λ k. (k.guard < guards) × (r.locks.latch k.guard ≡ taken i v.own.number k.version)) v.grips
      (grip guard p) (r.locks.grips i v at) has

  module _ (s s' : State (Option V) (Sight N O)) (i : ℕ) (v w : Sight N O) where
    module _ (guard p q : ℕ) (r : Rule s) (r' : Rule s') (at : get_elem? s.views i ≡ some v)
        (changed : s'.views ≡ set s.views i w) where
      -- after a step by which a seat gives its guard away, the guard's word isn't odd
      pub given_back_is_free : Contains v.grips (grip guard p) → w.grips ≡ without guard v.grips →
          slice_index r'.guard_words guard ≡ 2 * q + 1 → ⊥
      given_back_is_free has less odd =
          let mine = latch_of s r i v guard p at has in
          let h = odd_is_held s' r' guard q mine.0 odd in
          let u = h.1 in
          let there : get_elem? (set s.views i w) h.0 ≡ some u =
          ap (λ vs. get_elem? vs h.0) (sym changed) ∙ h.3 in
          ⊎_elim
          (λ e. without_has_none guard q v.grips
          (rw (← less, e.1) h.2.1))
          (λ e. let theirs = latch_of s r h.0 u guard q e.1 h.2.1 in
          let clash = sym theirs.1 ∙ mine.1 in e.0 (cc clash))
          (at_set s.views i h.0 w u there)

      -- after a step by which a seat's guards stay, a free guard's word isn't odd
      pub untaken_stays_free : guard < guards → w.grips ≡ v.grips → slice_index r.guard_words guard ≡ 2 * p →
          slice_index r'.guard_words guard ≡ 2 * q + 1 → ⊥
      untaken_stays_free below same even odd =
          let was = (latch_free author touches o guards r.scene.history guard _ p
          (r.locks.latch guard) (r.locks.shows guard below) even).0 in
          let h = odd_is_held s' r' guard q below odd in
          let u = h.1 in
          let there : get_elem? (set s.views i w) h.0 ≡ some u =
          ap (λ vs. get_elem? vs h.0) (sym changed) ∙ h.3 in
          let never : (j : ℕ) (x : Sight N O) → get_elem? s.views j ≡ some x → Contains x.grips _ → ⊥ =
          λ j x e has.
          (let clash = sym (latch_of s r j x guard q e has).1 ∙ was in cc clash) in
          ⊎_elim
          (λ e. never i v at
          (rw (← same, e.1) h.2.1))
          (λ e. never h.0 u e.1 h.2.1)
          (at_set s.views i h.0 w u there)

    -- a seat whose ticket is served doesn't lose it by a step after which the same ticket is served
    pub turn_is_passed_on : (r : Rule s) (r' : Rule s') → get_elem? s.views i ≡ some v → s'.views ≡ set s.views i w →
        IsServed v.stage → ¬ HasTicket w.stage → r'.scene.serving ≡ r.scene.serving → r'.scene.ticket ≡ r.scene.ticket →
        ⊥
    turn_is_passed_on r r' at changed served lost serving ticket =
        let kv = r.kept.each i v at in
        let mine = kv.ticket (served_ticket v.stage served) in
        let now = kv.served served in
        let t = r'.scene.serving in
        let h = r'.kept.waits t (omega arith) (let lt = mine.1 in omega arith) in
        let u = h.0 in let j = r'.scene.queue t in
        let there : get_elem? (set s.views i w) j ≡ some u = ap (λ vs. get_elem? vs j) (sym changed)
        ∙ h.2 in
        ⊎_elim
        (λ e. lost (rw e.1 h.1.0))
        (λ e. let theirs = (r.kept.each j u e.1).ticket h.1.0 in
        let same = h.1.1 ∙ (serving ∙ sym now) in
        e.0 (sym theirs.2 ∙ (ap r.scene.queue same ∙ mine.2)))
        (at_set s.views i j w u there)
