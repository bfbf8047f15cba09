-- The guards' words keep their rule.
use Rattle.std.proofs.Common.{◌≡◌, ◌≢◌, ℕ, zero, suc, ◌+◌, ◌-◌, ◌*◌, ◌==◌, ◌<◌, Bool, true, false, cond, not, List, []}
use Rattle.std.proofs.Common.{◌∷◌, ◌++◌, length, set, slice_index, slice_index_or, filter, All, Contains, refl, ap, sym}
use Rattle.std.proofs.Common.{subst, ◌∙◌, ⊎_elim, ne_eqb, eq-eqb, arith}
use Rattle.std.proofs.Math.ListN.{length-set}
use Rattle.std.proofs.lemmas.List.{get_or-set_same, get_or-set_other}
use Rattle.std.proofs.lemmas.List.Elements.{All-append, All-cons, All-contains, Contains-append_left}
use Rattle.std.proofs.lemmas.List.Elements.{Contains-append_right}
use mathlib.Core.Option.{some, some-ne-none}
use mathlib.Core.List.{IsPrefix}
use native.Mathlib.Decide.{ℕ_discrete}
use mathlib.Core.Logic.{dite}
use lib.ListN.{get_elem?}
use Rattle.atomic_table.proofs.Lists.{at_set, at_longer, set_here}
use Rattle.ra_turn.specs.declared.sight.Grip.{Grip}
use Rattle.ra_turn.specs.declared.sight.Sight.{Sight}
use Rattle.ra_turn.specs.Notes.{grip, without, touching, OnlyBy, IsVersion, IsNews, HoldsAll, ShutBy}
use Rattle.ra_turn.specs.Stages.{IsLive}
use Rattle.ra_turn.specs.Locks.{Latch, Latched, Locks, HasGrip}
use Rattle.ra_turn.specs.Locks.Latch.{free, taken}
use Rattle.ra_turn.proofs.Lists.{stands_at, at_below, at_end, all_one, all_map}
use Rattle.ra_turn.proofs.Versions.{touched_longer, version_only, version_kept, only_more}

module _ {A : Type 0} where
  filter_holds : (b : Bool) (P : A → Type 0) (x : A) (xs : List A) → (b ≡ true → P x) → All P xs →
      All P (cond b (x ∷ xs) xs)
  filter_holds true P x xs h all = All-cons P x xs (h refl) all
  filter_holds false P x xs h all = all

  has_if : (b : Bool) (y x : A) (ys : List A) → Contains ys x → Contains (cond b (y ∷ ys) ys) x
  has_if true y x ys h = (suc h.0, (omega arith), h.2)
  has_if false y x ys h = h

  module _ (test : A → Bool) where
    -- of what is left, each passes the test
    pub all_filter : (P Q : A → Type 0) (xs : List A) →
        ((x : A) → P x → test x ≡ true → Q x) → All P xs → All Q (filter test xs)
    all_filter P Q [] f all = λ k d lt. absurd (omega arith)
    all_filter P Q (x ∷ xs) f all =
        filter_holds (test x) Q x (filter test xs) (λ t. f x (all 0 x (omega arith)) t)
        (all_filter P Q xs f (λ k d lt. all (suc k) d (omega arith)))

    -- what passes the test is left
    pub filter_has : (xs : List A) (x : A) (k : ℕ) → k < length xs →
        slice_index_or xs k x ≡ x → test x ≡ true → Contains (filter test xs) x
    filter_has [] x k lt e t = absurd (omega arith)
    filter_has (y ∷ xs) x zero lt e t = rw (ap test e ∙ t) (0, omega arith, e)
    filter_has (y ∷ xs) x (suc k) lt e t =
        has_if _ y x _ (filter_has xs x k (omega arith) e t)

  none_there : (x : A) → Contains [] x → ⊥
  none_there x h = omega arith

module _ {N O : Type 0} (author : N → ℕ) (touches : O → N → ℕ → Bool) (o : O) (guards : ℕ) where
  abbrev Lock : List N → List ℕ → List (Sight N O) → Type 0
  Lock = Locks author touches o guards

  abbrev Gripped : (ℕ → Latch) → ℕ → ℕ → Grip → Type 0
  Gripped latch i number k = (k.guard < guards) × (latch k.guard ≡ taken i number k.version)

  -- a word that is even is that of a free guard
  pub latch_free : (history : List N) (guard word p : ℕ) (latch : Latch) →
      Latched (touching touches o guard) author history word latch → word ≡ 2 * p
      → (latch ≡ free p) × IsVersion (touching touches o guard) history p
  latch_free history guard word p (free q) l even =
      let same : q ≡ p = (let a = l.0 in omega arith) in
      (ap free same, rw (← same) l.1)
  latch_free history guard word p (taken j number q) l even = absurd (omega arith)

  -- one guard's word and latch change, and another's stay
  latch_changes : (history : List N) (words : List ℕ) (latch : ℕ → Latch) (guard word : ℕ) (new : Latch) →
      length words ≡ guards → guard < guards → ((g : ℕ) → g < guards → Latched (touching touches o g) author history
      (slice_index words g) (latch g)) → Latched (touching touches o guard) author history word new → (g : ℕ) →
      g < guards → Latched (touching touches o g) author history (slice_index (set words guard word) g)
      (cond (g == guard) new (latch g))
  latch_changes history words latch guard word new count below shows its g lt =
      dite (ℕ_discrete g guard)
      (λ e. (let here : slice_index (set words guard word) g ≡ word = ap (slice_index (set words guard word)) e
      ∙ get_or-set_same words guard word 0 (omega arith) in
      let turned : cond (g == guard) new (latch g) ≡ new = rw (eq-eqb g guard e) in
      let at : Latched (touching touches o g) author history word new =
      rw e its in
      rw (here, turned) at))
      (λ ne. (let there = get_or-set_other words guard g
      word 0 ne in
      let kept : cond (g == guard) new (latch g) ≡ latch g =
      rw (ne_eqb g guard ne) in
      rw (there, kept) (shows g lt)))

  -- a grip of another guard stays
  held_else : (latch : ℕ → Latch) (guard : ℕ) (new : Latch) (i number : ℕ) (k : Grip) → k.guard ≢ guard →
      Gripped latch i number k → Gripped (λ g. cond (g == guard) new (latch g)) i number k
  held_else latch guard new i number k ne h =
      (h.0, ap (λ b. cond b new (latch k.guard)) (ne_eqb k.guard guard ne) ∙ h.1)

  module _ {history : List N} {words : List ℕ} {views : List (Sight N O)} where
    module _ (i : ℕ) {v : Sight N O} (w : Sight N O) where
      -- a view goes from v to w, which has no more guards locked and was told only what is true
      pub locks_view : Lock history words views → get_elem? views i ≡ some v
          → w.own.number ≡ v.own.number → w.grips ≡ v.grips → (IsLive v.stage → IsLive w.stage) →
          All (IsNews touches o history) w.news → Lock history words (set views i w)
      locks_view k at same grips live news = record {
        latch = k.latch;
        count = k.count;
        shows = k.shows;
        grips = λ j u e. ⊎_elim
            (λ h. rw (← h.1, h.0, same, grips) (k.grips i v at))
            (λ h. k.grips j u h.1) (at_set views i j w u e);
        holder = λ g z n p lt e. stands_at _ views i v w z at
            (λ h. (live h.0, rw grips h.1)) (k.holder g z n p lt e);
        news = λ j u e. ⊎_elim
            (λ h. rw (← h.1) news)
            (λ h. k.news j u h.1) (at_set views i j w u e);
      }

      -- a view without locked guards goes to one without locked guards
      pub locks_less : Lock history words views → get_elem? views i ≡ some v → v.grips ≡ [] → w.grips ≡ [] →
          w.news ≡ [] → Lock history words (set views i w)
      locks_less k at empty grips news = record {
        latch = k.latch;
        count = k.count;
        shows = k.shows;
        grips = λ j u e. ⊎_elim
            (λ h. rw (← h.1, grips) (λ p d lt. absurd (omega arith)))
            (λ h. k.grips j u h.1) (at_set views i j w u e);
        holder = λ g z n p lt e. stands_at (HasGrip g p) views i v w z at
            (λ h. absurd (none_there (grip g p) (subst (λ ks. Contains ks (grip g p)) empty h.1)))
            (k.holder g z n p lt e);
        news = λ j u e. ⊎_elim
            (λ h. rw (← h.1, news) (λ p d lt. absurd (omega arith)))
            (λ h. k.news j u h.1) (at_set views i j w u e);
      }

      -- a free guard is taken
      pub locks_grip : (guard p : ℕ) → Lock history words views → get_elem? views i ≡ some v
          → IsLive w.stage → guard < guards → slice_index words guard ≡ 2 * p → w.own.number ≡ v.own.number →
          w.grips ≡ v.grips ++ grip guard p ∷ [] → w.news ≡ v.news
          → Lock history (set words guard (2 * p + 1)) (set views i w)
      locks_grip guard p k at live below even same grips news =
          let was = latch_free history guard _ p (k.latch guard) (k.shows guard below) even in
          let number = v.own.number in
          let new = taken i number p in
          let latch' : ℕ → Latch = λ g. cond (g == guard) new (k.latch g) in
          let apart : (j q : ℕ) (kk : Grip) → Gripped k.latch j q kk → kk.guard ≢ guard =
          λ j q kk h e. (let clash = sym h.1 ∙ (ap k.latch e ∙ was.0) in cc clash) in
          let stays : (j q : ℕ) (kk : Grip) → Gripped k.latch j q kk → Gripped latch' j q kk =
          λ j q kk h. held_else k.latch guard new j q kk (apart j q kk h) h in
          let here : latch' guard ≡ new = rw (eq-eqb guard guard refl) in
          let mine =
          All-append (Gripped latch' i number) v.grips (grip guard p ∷ [])
          (all_map (Gripped k.latch i number) (Gripped latch' i number) v.grips (stays i number) (k.grips i v at))
          (all_one (Gripped latch' i number) (grip guard p) [] refl (below, here)) in
          record {
            latch = latch';
            count = length-set words guard _ ∙ k.count;
            shows = latch_changes history words k.latch guard _ new k.count below k.shows
                (refl, version_only _ author number history p was.1);
            grips = λ j u e. ⊎_elim
                (λ h. rw (← h.1, h.0, same, grips) mine)
                (λ h. all_map _ _ u.grips
                (stays j u.own.number) (k.grips j u h.1)) (at_set views i j w u e);
            holder = λ g z n q lt e. dite (ℕ_discrete g guard)
                (λ eq. (let turned : latch' g ≡ new = rw (eq-eqb g guard eq) in
                let both = sym turned ∙ e in
                let seat : z ≡ i = sym (cc both) in let at_version : p ≡ q = cc both in
                let last : Contains (v.grips ++ grip guard p ∷ []) (grip guard p) =
                Contains-append_right v.grips _ _ (0, omega arith, refl) in
                let there : Contains w.grips (grip guard p) = rw grips last in (
                  w,
                  (
                    live,
                    rw (eq, ← at_version) there,
                  ),
                  ap (get_elem? (set views i w)) seat ∙ set_here views i w (at_below views i v at),
                )))
                (λ ne. (let kept : latch' g ≡ k.latch g = rw (ne_eqb g guard ne) in
                stands_at _ views i v w z at
                (λ h. (
                  live,
                  rw grips (Contains-append_left v.grips _ _ h.1),
                ))
                (k.holder g z n q lt (sym kept ∙ e))));
            news = λ j u e. ⊎_elim
                (λ h. rw (← h.1, news) (k.news i v at))
                (λ h. k.news j u h.1) (at_set views i j w u e);
          }

      -- a guard is unlocked at its version
      pub locks_release : (guard p q : ℕ) → Lock history words views → get_elem? views i ≡ some v → (IsLive v.stage →
          IsLive w.stage) → Contains v.grips (grip guard p) → IsVersion (touching touches o guard) history q →
          w.own.number ≡ v.own.number → w.grips ≡ without guard v.grips → w.news ≡ v.news →
          Lock history (set words guard (2 * q)) (set views i w)
      locks_release guard p q k at live has is same grips news =
          let number = v.own.number in
          let grip_of = All-contains (Gripped k.latch i number) v.grips (grip guard p) (k.grips i v at) has in
          let below = grip_of.0 in
          let was = grip_of.1 in
          let new = free q in
          let latch' : ℕ → Latch = λ g. cond (g == guard) new (k.latch g) in
          let mine =
          all_filter (λ kk. not (kk.guard == guard)) (Gripped k.latch i number) (Gripped latch' i number) v.grips
          (λ kk h t. held_else k.latch guard new i number kk
          (λ e. (let yes = eq-eqb kk.guard guard e in
          let clash : not true ≡ true = ap not (sym yes) ∙ t in cc clash)) h) (k.grips i v at) in
          let others : (j : ℕ) → j ≢ i → (r : ℕ) (kk : Grip) → Gripped k.latch j r kk → Gripped latch' j r kk =
          λ j ne r kk h.
          held_else k.latch guard new j r kk
          (λ e. (let clash = sym h.1 ∙ (ap k.latch e ∙ was) in ne (cc clash)))
          h in
          record {
            latch = latch';
            count = length-set words guard (2 * q) ∙ k.count;
            shows = latch_changes history words k.latch guard (2 * q) new k.count below k.shows (refl, is);
            grips = λ j u e. ⊎_elim
                (λ h. rw (← h.1) (rw h.0 (rw same (rw grips mine))))
                (λ h. all_map (Gripped k.latch j u.own.number) (Gripped latch' j u.own.number) u.grips
                (others j h.0 u.own.number) (k.grips j u h.1)) (at_set views i j w u e);
            holder = λ g z n r lt e. dite (ℕ_discrete g guard)
                (λ eq. (let turned : latch' g ≡ new = rw (eq-eqb g guard eq) in
                let clash = sym turned ∙ e in absurd (cc clash)))
                (λ ne. (let kept : latch' g ≡ k.latch g = rw (ne_eqb g guard ne) in
                let passes : not (g == guard) ≡ true = ap not (ne_eqb g guard ne) in
                stands_at (HasGrip g r) views i v w z at
                (λ h. (
                  live h.0,
                  rw grips (filter_has (λ kk. not (kk.guard == guard)) v.grips (grip g r) h.1.0 h.1.1 h.1.2 passes),
                ))
                (k.holder g z n r lt (sym kept ∙ e))));
            news = λ j u e. ⊎_elim
                (λ h. rw (← h.1) (rw news (k.news i v at)))
                (λ h. k.news j u h.1) (at_set views i j w u e);
          }

    -- one more view, which has no guard locked
    pub locks_more : (w : Sight N O) →
        Lock history words views → w.grips ≡ [] → w.news ≡ [] → Lock history words (views ++ w ∷ [])
    locks_more w k grips news = record {
      latch = k.latch;
      count = k.count;
      shows = k.shows;
      grips = λ j u e. ⊎_elim (k.grips j u)
          (λ h. rw (← h.1, grips) (λ p d lt. absurd (omega arith)))
          (at_end views w u j e);
      holder = λ g z n p lt e. (let h = k.holder g z n p lt e in (h.0, h.1, at_longer views _ z h.0 h.2));
      news = λ j u e. ⊎_elim (k.news j u)
          (λ h. rw (← h.1, news) (λ p d lt. absurd (omega arith)))
          (at_end views w u j e);
    }

    -- each guard that a seat has locked keeps others' notes on it out of the history
    pub shut_by : (i : ℕ) {v : Sight N O} → Lock history words views → get_elem? views i ≡ some v →
        ShutBy touches o author v.own.number history v.grips
    shut_by i {v} k at =
        all_map (Gripped k.latch i v.own.number)
        (λ kk. OnlyBy (touching touches o kk.guard) author v.own.number history kk.version) v.grips
        (λ kk h. (subst (Latched (touching touches o kk.guard) author history (slice_index words kk.guard)) h.1
        (k.shows kk.guard h.0)).1) (k.grips i v at)

  -- what was told stays true
  news_longer : (xs ys : List N) → IsPrefix xs ys → (k : Grip) → IsNews touches o xs k → IsNews touches o ys k
  news_longer xs ys p k h = (h.0, touched_longer _ xs ys (k.version - 1) p h.1)

  -- a latch stays right if a note is added by a pass that has locked each guard that the note touches
  latched_more : (history : List N) (n : N) (guard word : ℕ) (latch : Latch) (i : ℕ) (number : ℕ) → author n ≡ number
      → (touches o n guard ≡ true → (v : ℕ) × (latch ≡ taken i number v)) →
      Latched (touching touches o guard) author history word latch
      → (b : Bool) → touches o n guard ≡ b → Latched (touching touches o guard) author (history ++ n ∷ []) word latch
  latched_more history n guard word (free v) i number mine has l true e = absurd (let h = (has e).1 in cc h)
  latched_more history n guard word (free v) i number mine has l false e =
      (l.0, version_kept _ history n v e l.1)
  latched_more history n guard word (taken j q v) i number mine has l b e = (
    l.0,
    only_more _ author q history n v
        (λ t. (let h = (has t).1 in let same : number ≡ q = sym (cc h) in mine ∙ same)) l.1,
  )

  -- a note is added by a pass that has locked each guard that the note touches
  pub locks_note : (history xs : List N) (words : List ℕ) (views : List (Sight N O)) (i : ℕ) (v w : Sight N O) (n : N) →
      Lock history words views → get_elem? views i ≡ some v → xs ≡ history ++ n ∷ [] → author n ≡ v.own.number →
      HoldsAll touches o v.grips n → w.own.number ≡ v.own.number → w.grips ≡ v.grips → (IsLive v.stage →
      IsLive w.stage) → w.news ≡ v.news → Lock xs words (set views i w)
  locks_note history xs words views i v w n k at longer mine holds same grips live news =
      let more : Lock xs words views = record {
        latch = k.latch;
        count = k.count;
        shows = λ guard lt.
            rw longer (latched_more history n guard _ (k.latch guard) i v.own.number mine
            (λ t. (let h = holds guard t in (
              h.0,
              (All-contains (Gripped k.latch i v.own.number) v.grips (grip guard h.0) (k.grips i v at) h.1).1,
            )))
            (k.shows guard lt) _ refl);
        grips = k.grips;
        holder = k.holder;
        news = λ j u e. all_map _ _ u.news
            (news_longer history xs (n ∷ [], sym longer)) (k.news j u e);
      } in
      locks_view i w more at same grips live
      (rw news (more.news i v at))

  -- the guards' words at the start
  pub locks_start : (words : List ℕ) (v : Sight N O) → length words ≡ guards → ((g : ℕ) → slice_index words g ≡ 0) →
      v.grips ≡ [] → v.news ≡ [] → Lock [] words (v ∷ [])
  locks_start words v count zeros grips news =
      let none : Lock [] words [] = record {
        latch = λ g. free 0;
        count = count;
        shows = λ g lt. (
          zeros g ∙ omega arith,
          record {
            within = omega arith;
            last = λ more. absurd (omega arith);
            quiet = λ k x ge e. absurd cc;
          },
        );
        grips = λ j u e. absurd (some-ne-none u (sym e));
        holder = λ g z n p lt e. absurd (cc e);
        news = λ j u e. absurd (some-ne-none u (sym e));
      } in
      locks_more v none grips news
