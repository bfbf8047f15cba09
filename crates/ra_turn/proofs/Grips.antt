-- The steps on the guards' words keep the rule.
use Rattle.std.proofs.Common.{◌≡◌, ℕ, zero, suc, ◌+◌, ◌*◌, ◌/◌, ◌%◌, ◌<◌, ◌≤◌, ◌==◌, Bool, true, false, cond, List, []}
use Rattle.std.proofs.Common.{◌∷◌, ◌++◌, length, set, get_or, All, Contains, refl, ap, sym}
use Rattle.std.proofs.Common.{subst, ◌∙◌, arith, Option, Some}
use Rattle.std.proofs.lemmas.List.{set-get_or}
use Rattle.std.proofs.lemmas.List.Elements.{All-cons, All-contains}
use Rattle.std.proofs.lemmas.Bool.Decides.{nat_tests}
use mathlib.Core.Option.{none, some}
use prog.Atomic.{either}
use lib.ListN.{get_elem?}
use Rattle.atomic_table.specs.Table.{State, Act, Me, Allows, step, keeps, Valid, homes_after, carried_after}
use Rattle.ra_turn.specs.declared.sight.Grip.{Grip}
use Rattle.ra_turn.specs.declared.sight.Sight.{Sight}
use Rattle.ra_turn.specs.declared.sight.Stage.TheVariants.{Idle}
use Rattle.ra_turn.specs.Notes.{grip, without, touching, OnlyBy, IsVersion, IsNews}
use Rattle.ra_turn.specs.Law.{Scene, Kept, Ruled, Knows}
use Rattle.ra_turn.specs.Stages.{IsPass}
use Rattle.ra_turn.specs.Locks.{Latch, Latched, Locks}
use Rattle.ra_turn.specs.Steps.{with_grips, with_news, at_version, heard, glanced, gripped, released, TookGuard}
use Rattle.ra_turn.specs.Steps.{GaveGuard}
use Rattle.ra_turn.proofs.Keeps.{moved, slot_kept, waits_stay}
use Rattle.ra_turn.proofs.Stages.{pass_live}
use Rattle.ra_turn.proofs.Lists.{all_map, at_below}
use Rattle.atomic_table.proofs.Lists.{set_here}
use Rattle.ra_turn.proofs.Versions.{version_seen, version_whole, only_shorter}
use Rattle.ra_turn.proofs.Latches.{locks_view, locks_grip, locks_release, latch_free, shut_by}

module _ {V N O : Type 0} (opening : V → O) (notes : V → List N) (author : N → ℕ) (touches : O → N → ℕ → Bool)
    (passes turns guards : ℕ) (o : O) where
  abbrev Rule : State (Option V) (Sight N O) → Type 0
  Rule = Ruled opening notes author touches passes turns guards o

  abbrev Base : Scene N → List ℕ → State (Option V) (Sight N O) → Type 0
  Base = Kept opening notes author passes turns o

  -- an idle seat's view changes only in what it has locked and was told, and one guard's word changes
  base_grip : (c : Scene N) (gs gs' : List ℕ) (s : State (Option V) (Sight N O)) (i : ℕ) (v : Sight N O)
      (grips news : List Grip) → v.stage ≡ Idle → Base c gs s → get_elem? s.views i ≡ some v →
      Base c gs' (record {
        words = c.ticket ∷ c.serving ∷ length c.history ∷ gs';
        homes = s.homes;
        views = set s.views i (record v { grips = grips; news = news });
      })
  base_grip c gs gs' s i v grips news stage k at =
      let kv = k.each i v at in
      let w : Sight N O = record v { grips = grips; news = news } in
      let mine : Knows author passes turns o c s.homes i w = record {
        maker = λ t e. (let m = kv.maker t e in record {
          seat = m.seat;
          turns_each = m.turns_each;
          numbers = m.numbers;
          left = m.left;
        });
        opened = kv.opened;
        parts = kv.parts;
        ticket = kv.ticket;
        served = kv.served;
        whole = kv.whole;
        away = kv.away;
      } in
      moved c gs' i w _ s.homes k at refl k.order (omega arith) k.numbers
      refl (λ n. refl) (λ n h. h)
      (waits_stay i w k at (λ t h. h)) k.unheard
      (slot_kept i w k at (rw stage (λ h. h)))
      mine (λ j u ne e. k.each j u e)

  module _ (history : List N) (guard word : ℕ) where
    -- an even word tells of a note, if it isn't 0
    heard_even : (p : ℕ) (latch : Latch) (news : List Grip) →
        Latched (touching touches o guard) author history word latch → word ≡ 2 * p
        → All (IsNews touches o history) news → All (IsNews touches o history) (at_version guard p news)
    heard_even zero latch news l even all = all
    heard_even (suc p) latch news l even all =
        let is = (latch_free author touches o guards history guard word (suc p) latch l even).1 in
        let last = is.last (omega arith) in
        All-cons (IsNews touches o history) (grip guard (suc p)) news (omega arith, last) all

    heard_true : (latch : Latch) (news : List Grip) → Latched (touching touches o guard) author history word latch →
        All (IsNews touches o history) news → (b : Bool) → (word % 2 == 0) ≡ b →
        All (IsNews touches o history) (cond b (at_version guard (word / 2) news) news)
    heard_true latch news l all true e =
        let even : word % 2 ≡ 0 = grind (arith, nat_tests) in
        heard_even (word / 2) latch news l (omega arith) all
    heard_true latch news l all false e = all

  three_more : (guard : ℕ) → 3 + guard ≡ suc (suc (suc guard))
  three_more guard = omega arith

  module _ (slots i : ℕ) (m : Me (Option V) (Sight N O)) (guard : ℕ) where
    -- a look at a guard
    pub glances : m.0.stage ≡ Idle → guard < guards
        → Allows Rule slots i m (3 + guard) (λ n. n) (glanced (step slots (3 + guard) 0 0 none) m)
    glances stage below s r len at fits =
        let k = r.kept in let c = r.scene in let v = m.0 in let gs = r.guard_words in
        let word = get_or gs guard 0 in
        let news = heard guard word v.news in
        let w = with_news v news in
        let same = set-get_or gs guard 0 in
        let true_news =
        heard_true c.history guard word (r.locks.latch guard) v.news (r.locks.shows guard below) (r.locks.news i v at)
        (word % 2 == 0) refl in
        rw (three_more guard, k.words) ((
          w,
          keeps,
          tt,
          record {
            scene = c;
            guard_words = set gs guard word;
            kept = base_grip c gs (set gs guard word) s i v v.grips news stage k at;
            locks = rw same (locks_view author touches o guards i w r.locks at refl refl (λ h. h) true_news);
          },
          λ g e. (let one : guard ≡ g = omega arith in rw one),
        ))

    module _ (old p : ℕ) (s : State (Option V) (Sight N O)) (stage : m.0.stage ≡ Idle) (below : guard < guards)
        (twice : old ≡ 2 * p) (r : Rule s) (at : get_elem? s.views i ≡ some m.0) where
      -- a try to take a guard
      grips_at : (b : Bool) → (get_or r.guard_words guard 0 == old) ≡ b → (w : Sight N O) × (a : Act (Option V))
          × Valid s.homes m.1 a × Rule (record {
            words =
                r.scene.ticket ∷ r.scene.serving ∷ length r.scene.history ∷ set r.guard_words guard
                (either (get_or r.guard_words guard 0 == old) (old + 1) (get_or r.guard_words guard 0));
            homes = homes_after s.homes m.1 a;
            views = set s.views i w;
          }) × gripped author touches (step slots (3 + guard) old
          (old + 1) none) m (get_or r.guard_words guard 0) (w, carried_after m.1 a)
      grips_at true e =
          let k = r.kept in let c = r.scene in let v = m.0 in let gs = r.guard_words in let kv = k.each i v at in
          let word = get_or gs guard 0 in
          let pass : IsPass v.stage = rw stage tt in
          let found : word ≡ old = grind (arith, nat_tests) in
          let even = found ∙ twice in
          let grips = v.grips ++ grip guard p ∷ [] in
          let w = with_grips v grips in
          let m' : Me (Option V) (Sight N O) = (w, m.1) in
          let gs' = set gs guard (either (word == old) (old + 1) word) in
          let raised : either (word == old) (old + 1) word ≡ 2 * p + 1 = ap (λ b. either b (old + 1) word) e
          ∙ omega arith in
          let same : gs' ≡ set gs guard (2 * p + 1) = rw raised in
          let views' = set s.views i w in
          let taken_now =
          locks_grip author touches o guards i w guard p r.locks at (pass_live v.stage pass)
          below even refl refl refl in
          let locks' : Locks author touches o guards c.history gs' views' =
          rw same taken_now in
          let fits_own = (kv.parts pass) 0 v.own (omega arith) in
          let opened = kv.opened (pass_live v.stage pass) in
          let shut =
          all_map (λ kk. OnlyBy (touching touches o kk.guard) author v.own.number c.history kk.version)
          (λ kk. OnlyBy (touching touches o kk.guard) author v.own.number v.own.seen kk.version) grips
          (λ kk only. only_shorter (touching touches o kk.guard) author v.own.number v.own.seen c.history kk.version
          fits_own.seen only)
          (shut_by author touches o guards i locks'
          (set_here s.views i w (at_below s.views i v at))) in
          let current : p ≤ length v.own.seen → IsVersion (touching touches o guard) v.own.seen p = λ le.
          version_seen (touching touches o guard) v.own.seen c.history p fits_own.seen le
          (latch_free author touches o guards c.history guard word p (r.locks.latch guard) (r.locks.shows guard below)
          even).1 in
          let facts : (guard' q : ℕ) → 3 + guard ≡ 3 + guard' → old ≡ 2 * q → TookGuard author touches m m' guard' q =
          λ guard' q one two.
          (let g' : guard ≡ guard' = omega arith in let q' : p ≡ q = omega arith in
          rw (← g') (rw (← q') (
            refl,
            λ o' opened'. (let whose : o ≡ o' = cc (sym opened ∙ opened') in rw (← whose) shut),
            λ o' opened' le. (let whose : o ≡ o' = cc (sym opened ∙ opened') in rw (← whose) (current le)),
          ))) in (
            w,
            keeps,
            tt,
            record {
              scene = c;
              guard_words = gs';
              kept = base_grip c gs gs' s i v grips v.news stage k at;
              locks = locks';
            },
            rw e facts,
          )
      grips_at false e =
          let k = r.kept in let c = r.scene in let v = m.0 in let gs = r.guard_words in
          let word = get_or gs guard 0 in
          let gs' = set gs guard (either (word == old) (old + 1) word) in
          let same : gs' ≡ gs = ap (λ b. set gs guard (either b (old + 1) word)) e ∙ set-get_or gs guard 0 in (
            v,
            keeps,
            tt,
            record {
              scene = c;
              guard_words = gs';
              kept = base_grip c gs gs' s i v v.grips v.news stage k at;
              locks = subst (λ ys. Locks author touches o guards c.history ys (set s.views i v)) (sym same)
                  (locks_view author touches o guards i v r.locks at refl refl (λ h. h)
                  (r.locks.news i v at));
            },
            rw e,
          )

  pub grips : (slots i : ℕ) (m : Me (Option V) (Sight N O)) (guard old p : ℕ) → m.0.stage ≡ Idle → guard < guards →
      old ≡ 2 * p
      → Allows Rule slots i m (3 + guard) (λ n. either (n == old) (old + 1) n)
      (gripped author touches (step slots (3 + guard) old (old + 1) none) m)
  grips slots i m guard old p stage below twice s r len at fits =
      let P : List ℕ → ℕ → Type 0 = λ ws q. (w' : Sight N O) × (a : Act (Option V)) × Valid s.homes m.1 a
      × Rule (record {
        words = set ws q (either (get_or ws q 0 == old) (old + 1) (get_or ws q 0));
        homes = homes_after s.homes m.1 a;
        views = set s.views i w';
      })
      × gripped author touches (step slots (3 + guard) old (old + 1) none) m (get_or ws q 0)
      (w', carried_after m.1 a) in
      subst (λ q. P s.words q) (sym (three_more guard))
      (subst (λ (ws : List ℕ). P ws (suc (suc (suc guard)))) (sym r.kept.words)
      (grips_at slots i m guard old p s stage below twice r at (get_or r.guard_words guard 0 == old) refl))

  -- a guard is unlocked
  pub releases : (slots i : ℕ) (m : Me (Option V) (Sight N O)) (guard p q : ℕ) → m.0.stage ≡ Idle →
      Contains m.0.grips (grip guard p) → p ≤ length m.0.own.seen → ((z : O) → m.0.opened ≡ Some z →
      IsVersion (touching touches z guard) m.0.own.seen q) → Allows Rule slots i m (3 + guard) (λ n. 2 * q)
      (released author touches (step slots (3 + guard) (2 * q) 0 none) m)
  releases slots i m guard p q stage has reached version s r len at fits =
      let k = r.kept in let c = r.scene in let v = m.0 in let gs = r.guard_words in let kv = k.each i v at in
      let pass : IsPass v.stage = rw stage tt in
      let opened = kv.opened (pass_live v.stage pass) in
      let f = (kv.parts pass) 0 v.own (omega arith) in
      let only = All-contains (λ kk. OnlyBy (touching touches o kk.guard) author v.own.number c.history kk.version)
      v.grips (grip guard p) (shut_by author touches o guards i r.locks at) has in
      let is =
      version_whole (touching touches o guard) author v.own.number v.own.seen c.history v.own.mine p q f.seen
      f.own_seen f.mine reached only (version o opened) in
      let grips = without guard v.grips in
      let w = with_grips v grips in
      let gs' = set gs guard (2 * q) in
      let locks' =
      locks_release author touches o guards i w guard p q r.locks at (λ h. h) has is refl
      refl refl in
      let shut =
      all_map (λ kk. OnlyBy (touching touches o kk.guard) author v.own.number c.history kk.version)
      (λ kk. OnlyBy (touching touches o kk.guard) author v.own.number v.own.seen kk.version) grips
      (λ kk mine. only_shorter (touching touches o kk.guard) author v.own.number v.own.seen c.history kk.version f.seen
      mine)
      (shut_by author touches o guards i locks'
      (set_here s.views i w (at_below s.views i v at))) in
      let m' : Me (Option V) (Sight N O) = (w, m.1) in
      let gave : GaveGuard author touches m m' guard = (
        refl,
        λ o' opened'. (let whose : o ≡ o' = cc (sym opened ∙ opened') in rw (← whose) shut),
      ) in
      rw (three_more guard, k.words) ((
        w,
        keeps,
        tt,
        record {
          scene = c;
          guard_words = gs';
          kept = base_grip c gs gs' s i v grips v.news stage k at;
          locks = locks';
        },
        λ g e. (let one : guard ≡ g = omega arith in rw (← one) gave),
      ))
