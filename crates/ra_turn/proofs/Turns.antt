-- The steps by which a turn begins keep the rule.
use Rattle.std.proofs.Common.{◌≡◌, ◌≢◌, ℕ, ◌+◌, ◌*◌, ◌%◌, ◌^◌, ◌<◌, ◌≤◌, ◌==◌, Bool, true, false, cond, zero, suc, List}
use Rattle.std.proofs.Common.{[], ◌∷◌, length, set, get_or, slice_index_or, All, Contains, refl, ap, sym}
use Rattle.std.proofs.Common.{subst, ◌∙◌, inr, ⊎_elim, ne_eqb, eq-eqb, arith, Option, Some}
use Rattle.std.proofs.Math.Nat.{mod-eq_of_lt}
use mathlib.Core.Option.{none, some, some-injective}
use mathlib.Core.Option as maybe
use mathlib.Core.Logic.{dite}
use native.Mathlib.Decide.{ℕ_discrete}
use prog.Atomic.{either}
use lib.ListN.{get_elem?}
use Rattle.atomic_table.specs.Table.{State, Act, Me, Allows, step, keeps, takes, Valid, homes_after, carried_after}
use Rattle.atomic_table.proofs.Lists.{set_here}
use Rattle.ra_turn.specs.declared.sight.Part.{Part}
use Rattle.ra_turn.specs.declared.sight.Sight.{Sight}
use Rattle.ra_turn.specs.declared.sight.Stage.TheVariants.{Idle, Drawn, Called, InTurn}
use Rattle.ra_turn.specs.declared.sight.Grip.{Grip}
use Rattle.ra_turn.specs.Notes.{by, IsNews, ShutBy}
use Rattle.ra_turn.specs.Locks.{Locks}
use Rattle.ra_turn.specs.Law.{AtTicket, Scene, Kept, Ruled, Fits, Knows, AtHome, OutWith, left_of_sight}
use Rattle.ra_turn.specs.Stages.{IsPass, HasTicket, IsServed}
use Rattle.ra_turn.specs.Steps.{with_stage, with_seen, with_ticket, peeked, ticket_drawn, queued, looked, saw}
use Rattle.std.proofs.lemmas.Bool.Decides.{nat_tests}
use Rattle.ra_turn.proofs.Lists.{prefix_self, sum_has, at_below, all_first}
use Rattle.ra_turn.proofs.Stages.{slot_served, served_ticket, pass_live}
use Rattle.ra_turn.proofs.Keeps.{moved, slot_kept, waits_stay}
use Rattle.ra_turn.proofs.Latches.{locks_view, shut_by}

module _ {V N O : Type 0} (opening : V → O) (notes : V → List N) (author : N → ℕ) (touches : O → N → ℕ → Bool)
    (passes turns guards : ℕ) (o : O) where
  abbrev Rule : State (Option V) (Sight N O) → Type 0
  Rule = Ruled opening notes author touches passes turns guards o

  abbrev Base : Scene N → List ℕ → State (Option V) (Sight N O) → Type 0
  Base = Kept opening notes author passes turns o

  abbrev Known : Scene N → List (maybe.Option (Option V)) → ℕ → Sight N O → Type 0
  Known = Knows author passes turns o

  abbrev Lock : Scene N → List ℕ → List (Sight N O) → Type 0
  Lock c = Locks author touches o guards c.history

  module _ (c : Scene N) (gs : List ℕ) (views : List (Sight N O)) (i : ℕ) (v : Sight N O) (k : Lock c gs views)
      (at : get_elem? views i ≡ some v) (xs : List N) where
    -- the guards that a view has locked keep others' notes on them out of the history, and so out of what the view has
    -- seen of it
    pub is_shut : (grips : List Grip) (number : ℕ) → v.opened ≡ Some o → xs ≡ c.history → grips ≡ v.grips →
        number ≡ v.own.number → (p : O) → v.opened ≡ Some p → ShutBy touches p author number xs grips
    is_shut grips number opened all same one p opened' =
        let whose : o ≡ p = (let e = sym opened ∙ opened' in cc e) in
        let shut = shut_by author touches o guards i k at in
        rw (← whose, all, one, same) shut

    -- what a view was told is in the history
    pub is_told : (news : List Grip) → v.opened ≡ Some o → xs ≡ c.history → news ≡ v.news
        → (p : O) → v.opened ≡ Some p → All (IsNews touches p xs) news
    is_told news opened all same p opened' =
        let whose : o ≡ p = (let e = sym opened ∙ opened' in cc e) in
        subst (λ z. All (IsNews touches z xs) news) whose
        (rw all (rw same (k.news i v at)))

  module _ (n : ℕ) (v w : Sight N O) (own : w.own.number ≡ v.own.number) (rest : w.joined ≡ v.joined) where
    renumbered_at : (p : Part N) (k : ℕ) → k < length (v.own ∷ v.joined) → slice_index_or (v.own ∷ v.joined) k p ≡ p →
        p.number ≡ n → (q : Part N) × Contains (w.own ∷ w.joined) q × (q.number ≡ n)
    renumbered_at p zero lt e is =
        (w.own, (0, omega arith, refl), own ∙ (ap (λ x. x.number) e ∙ is))
    renumbered_at p (suc k) lt e is =
        let here : Contains (w.own ∷ v.joined) p = (suc k, omega arith, e) in
        (p, rw rest here, is)

    -- a view whose own number stays has the same numbers
    pub renumbered : (p : Part N) × Contains (v.own ∷ v.joined) p × (p.number ≡ n) →
        (p : Part N) × Contains (w.own ∷ w.joined) p × (p.number ≡ n)
    renumbered h = renumbered_at h.0 h.1.0 h.1.1 h.1.2 h.2

  module _ (c : Scene N) (gs : List ℕ) (s : State (Option V) (Sight N O)) (i : ℕ) (v : Sight N O) where
    -- a ticket and the turns left are together few
    pub few_turns : Base c gs s → get_elem? s.views i ≡ some v → c.ticket + v.left ≤ passes * turns
    few_turns k at = let h = sum_has left_of_sight s.views i v at in omega arith

    -- nothing changes for an idle seat
    idle_kept : (ticket : ℕ) → v.stage ≡ Idle → Base c gs s → get_elem? s.views i ≡ some v → ticket ≡ c.ticket →
        Base c gs (record {
          words = ticket ∷ c.serving ∷ length c.history ∷ gs;
          homes = s.homes;
          views = set s.views i v;
        })
    idle_kept ticket idle k at same =
        moved c gs i v _ s.homes k at
        (rw same) k.order (omega arith) k.numbers refl (λ n. refl)
        (λ n h. h)
        (waits_stay i v k at (λ t h. h)) k.unheard
        (slot_kept i v k at (rw idle (λ h. h)))
        (k.each i v at) (λ j u ne e. k.each j u e)

  -- the ticket that is served is one seat's
  pub served_one : (c : Scene N) (homes : List (maybe.Option (Option V))) (i j : ℕ) (v u : Sight N O) →
      Known c homes i v → Known c homes j u → IsServed v.stage → IsServed u.stage → i ≡ j
  served_one c homes i j v u kv ku sv su =
      let same = kv.served sv ∙ sym (ku.served su) in
      sym (kv.ticket (served_ticket v.stage sv)).2 ∙ (ap c.queue same ∙ (ku.ticket (served_ticket u.stage su)).2)

  -- the note counts are below the bound while a ticket is served
  pub few_notes : (c : Scene N) (gs : List ℕ) (s : State (Option V) (Sight N O)) (i : ℕ) (v : Sight N O) → Base c gs s →
      get_elem? s.views i ≡ some v → IsServed v.stage → c.serving < passes * turns
  few_notes c gs s i v k at sv =
      let kv = k.each i v at in let t = kv.ticket (served_ticket v.stage sv) in omega arith

  module _ (slots i : ℕ) (m : Me (Option V) (Sight N O)) where
    -- the next ticket is drawn: the rule holds with the ticket word one more
    one_drawn : (next : ℕ) (s : State (Option V) (Sight N O)) → m.0.stage ≡ Idle → 0 < m.0.left → (r : Rule s) →
        get_elem? s.views i ≡ some m.0 → next ≡ r.scene.ticket + 1 →
        Rule (record {
          words = next ∷ r.scene.serving ∷ length r.scene.history ∷ r.guard_words;
          homes = s.homes;
          views = set s.views i (with_ticket m.0 r.scene.ticket);
        })
    one_drawn next s idle more r at raised =
        let k = r.kept in let c = r.scene in let v = m.0 in
        let c' : Scene N = record c { ticket = c.ticket + 1; queue = λ t. cond (t == c.ticket) i (c.queue t) } in
        let w = with_ticket v c.ticket in
        let kv = k.each i v at in
        let pass : IsPass v.stage = rw idle tt in
        let mine : Known c' s.homes i w = record {
          maker = λ t e. absurd (cc e);
          opened = λ h. kv.opened (pass_live v.stage pass);
          parts = λ h. kv.parts pass;
          ticket = λ h.
              (k.order, omega arith, rw (eq-eqb c.ticket c.ticket refl));
          served = absurd;
          whole = absurd;
          away = absurd;
        } in
        let others : (j : ℕ) (u : Sight N O) → j ≢ i → get_elem? s.views j ≡ some u → Known c' s.homes j u =
        λ j u ne e. let ku = k.each j u e in record {
          maker = ku.maker;
          opened = ku.opened;
          parts = ku.parts;
          ticket = λ h.
              (let t = ku.ticket h in (
                t.0,
                omega arith,
                ap (λ b. cond b i (c.queue u.at))
                    (ne_eqb u.at c.ticket (λ same. omega arith)) ∙ t.2,
              ));
          served = ku.served;
          whole = ku.whole;
          away = ku.away;
        } in
        let waits : (t : ℕ) → c.serving ≤ t → t < c'.ticket → (u : Sight N O) × AtTicket t u
        × (get_elem? (set s.views i w) (c'.queue t) ≡ some u) = λ t from below.
        dite (ℕ_discrete t c.ticket)
        (λ e. (let mine : c'.queue t ≡ i = rw (eq-eqb t c.ticket e) in
        (w, (tt, sym e), ap (get_elem? (set s.views i w)) mine ∙ set_here s.views i w (at_below s.views i v at))))
        (λ ne. (let theirs : c'.queue t ≡ c.queue t = rw (ne_eqb t c.ticket ne) in
        let g = waits_stay i w k at
        (λ q h. absurd (subst HasTicket idle h.0)) t from (omega arith) in
        (g.0, g.1, ap (get_elem? (set s.views i w)) theirs ∙ g.2))) in
        record {
          scene = c';
          guard_words = r.guard_words;
          kept = moved c' r.guard_words i w _ s.homes k at
              (rw raised)
              (let h = k.order in omega arith) (omega arith) k.numbers refl (λ n. refl) (λ n h. (
                tt,
                h.1,
              )) waits k.unheard
              (slot_kept i w k at (rw idle (λ h. h)))
              mine others;
          locks = locks_view author touches o guards i w r.locks at refl refl (λ h. tt)
              (r.locks.news i v at);
        }

    module _ (small : passes * turns < 2 ^ 62) where
      -- a look at how far the turns are
      pub peeks : m.0.stage ≡ Idle → Allows Rule slots i m 1 (λ n. n) (peeked (step slots 1 0 0 none) m)
      peeks idle s r len at fits =
          let k = r.kept in let c = r.scene in let v = m.0 in
          let few : c.serving < 2 ^ 62 =
          (let most = few_turns c r.guard_words s i v k at in let h = k.order in omega arith) in
          rw k.words (
            v,
            keeps,
            tt,
            record {
              scene = c;
              guard_words = r.guard_words;
              kept = idle_kept c r.guard_words s i v c.ticket idle k at refl;
              locks = locks_view author touches o guards i v r.locks at refl refl (λ h. h)
                  (r.locks.news i v at);
            },
            (refl, few),
          )

      -- a ticket is drawn after those that wait
      pub queues : m.0.stage ≡ Idle → 0 < m.0.left
          → Allows Rule slots i m 0 (λ n. (n + 1) % 2 ^ 64) (queued (step slots 0 1 0 none) m)
      queues idle more s r len at fits =
          let few = few_turns r.scene r.guard_words s i m.0 r.kept at in
          let raised : (r.scene.ticket + 1) % 2 ^ 64 ≡ r.scene.ticket + 1 = mod-eq_of_lt (omega arith) in
          rw r.kept.words (
            with_ticket m.0 r.scene.ticket,
            keeps,
            tt,
            one_drawn _ s idle more r at raised,
            refl,
          )

      -- the history is seen, and the slot taken
      pub sees : m.0.stage ≡ Called
          → Allows Rule slots i m 2 (λ n. n) (saw opening notes author touches (step slots 2 0 0 none) m)
      sees stage s r len at fits =
          let k = r.kept in let c = r.scene in let v = m.0 in let kv = k.each i v at in
          let sv : IsServed v.stage = rw stage tt in
          let pass : IsPass v.stage = rw stage tt in
          let few = few_notes c r.guard_words s i v k at sv in
          let P : List ℕ → Type 0 = λ ws. (w' : Sight N O) × (a : Act (Option V)) × Valid s.homes m.1 a
          × Rule (record {
            words = set ws 2 (get_or ws 2 0);
            homes = homes_after s.homes m.1 a;
            views = set s.views i w';
          })
          × saw opening notes author touches (step slots 2 0 0 none) m (get_or ws 2 0) (w', carried_after m.1 a) in
          let home : (x : V) → AtHome opening notes o c.history c.serving s.homes x →
          P (c.ticket ∷ c.serving ∷ length c.history ∷ r.guard_words) = λ x h.
          let w = with_seen author v InTurn _ in
          let below = h.few in
          let homes' = set s.homes 0 none in
          let gone : homes' ≡ none ∷ [] = rw h.here in
          let fits_own = (kv.parts pass) 0 v.own (omega arith) in
          let own : Fits author c.history c.given c.owner i w.own = record {
            below = fits_own.below;
            owned = fits_own.owned;
            seen = rw (← h.same) (prefix_self _);
            mine = rw (← h.same);
            own_seen = refl;
          } in
          let mine : Known c homes' i w = record {
            maker = λ t e. absurd (cc e);
            opened = λ z. kv.opened (pass_live v.stage pass);
            parts = λ z. all_first (Fits author c.history c.given c.owner i) v.own w.own v.joined own (kv.parts pass);
            ticket = λ z. kv.ticket (served_ticket v.stage sv);
            served = λ z. kv.served sv;
            whole = λ z. h.same;
            away = λ z. gone;
          } in
          let others : (j : ℕ) (u : Sight N O) → j ≢ i → get_elem? s.views j ≡ some u → Known c homes' j u =
          λ j u ne e. let ku = k.each j u e in record {
            maker = ku.maker;
            opened = ku.opened;
            parts = ku.parts;
            ticket = ku.ticket;
            served = ku.served;
            whole = ku.whole;
            away = λ z. gone;
          } in (
            w,
            takes 0 (Some x),
            rw h.here,
            record {
              scene = c;
              guard_words = r.guard_words;
              kept = moved c r.guard_words i w _ homes' k at
                  refl k.order (omega arith) k.numbers refl
                  (λ n. refl) (λ n q. (tt, renumbered n v w refl refl q.1))
                  (waits_stay i w k at (λ t q. (tt, q.1)))
                  k.unheard
                  (inr (
                    i,
                    w,
                    record {
                      out = gone;
                      seat = set_here s.views i w (at_below s.views i v at);
                      has = tt;
                      few = omega arith;
                    },
                  ))
                  mine others;
              locks = locks_view author touches o guards i w r.locks at refl refl
                  (λ h. tt) (r.locks.news i v at);
            },
            (
              x,
              record {
                opened = kv.opened (pass_live v.stage pass) ∙ ap Some (sym h.opened);
                seen = rw h.same fits_own.seen;
                mine = ap (by author v.own.number) h.same ∙ fits_own.mine;
                count = ap length (sym h.same);
                small = omega arith;
              },
              refl,
              is_shut c r.guard_words s.views i v r.locks at (notes x) v.grips v.own.number
                  (kv.opened (pass_live v.stage pass)) h.same refl refl,
              is_told c r.guard_words s.views i v r.locks at (notes x) v.news (kv.opened (pass_live v.stage pass))
                  h.same
                  refl,
            ),
          ) in
          let out : (j : ℕ) (u : Sight N O) → OutWith c.history c.serving s.homes s.views j u →
          P (c.ticket ∷ c.serving ∷ length c.history ∷ r.guard_words) = λ j u h.
          let one = served_one c s.homes j i u v (k.each j u h.seat) kv (slot_served u.stage h.has) sv in
          let same = some-injective u v (sym h.seat ∙ (ap (get_elem? s.views) one ∙ at)) in
          absurd (rw stage at (rw same at h.has)) in
          rw k.words (⊎_elim (λ h. home h.0 h.1) (λ h. out h.0 h.1 h.2) k.slot)

    -- a try to draw a ticket
    draws_at : (old : ℕ) (s : State (Option V) (Sight N O)) → m.0.stage ≡ Idle → 0 < m.0.left → (r : Rule s) →
        get_elem? s.views i ≡ some m.0 → (b : Bool) → (r.scene.ticket == old) ≡ b →
        (w : Sight N O) × (a : Act (Option V)) × Valid s.homes m.1 a × Rule (record {
          words =
              either (r.scene.ticket == old)
              (old + 1) r.scene.ticket ∷ r.scene.serving ∷ length r.scene.history ∷ r.guard_words;
          homes = homes_after s.homes m.1 a;
          views = set s.views i w;
        }) × ticket_drawn (step slots 0 old
        (old + 1) none) m r.scene.ticket (w, carried_after m.1 a)
    draws_at old s idle more r at true e =
        let c = r.scene in
        let found : c.ticket ≡ old = grind (arith, nat_tests) in
        let raised : either (c.ticket == old) (old + 1) c.ticket ≡ c.ticket + 1 =
        ap (λ b. either b (old + 1) c.ticket) e ∙ omega arith in
        let m' : Me (Option V) (Sight N O) = (with_ticket m.0 c.ticket, m.1) in (
          m'.0,
          keeps,
          tt,
          one_drawn _ s idle more r at raised,
          rw e,
        )
    draws_at old s idle more r at false e =
        let k = r.kept in let c = r.scene in let v = m.0 in
        let m' : Me (Option V) (Sight N O) = (with_ticket v c.ticket, m.1) in
        let same : either (c.ticket == old) (old + 1) c.ticket ≡ c.ticket =
        rw e in (
          v,
          keeps,
          tt,
          record {
            scene = c;
            guard_words = r.guard_words;
            kept = idle_kept c r.guard_words s i v _ idle k at same;
            locks = locks_view author touches o guards i v r.locks at refl refl (λ h. h)
                (r.locks.news i v at);
          },
          rw e,
        )

    pub draws : (old : ℕ) → m.0.stage ≡ Idle → 0 < m.0.left →
        Allows Rule slots i m 0 (λ n. either (n == old) (old + 1) n) (ticket_drawn (step slots 0 old (old + 1) none) m)
    draws old idle more s r len at fits =
        rw r.kept.words (draws_at old s idle more r at (r.scene.ticket == old) refl)

    -- a look at whose turn it is
    looks_at : (s : State (Option V) (Sight N O)) → m.0.stage ≡ Drawn → (r : Rule s) → get_elem? s.views i ≡ some m.0 →
        (b : Bool) → (r.scene.serving == m.0.at) ≡ b → (w : Sight N O) × (a : Act (Option V)) × Valid s.homes m.1 a
        × Rule (record {
          words = r.scene.ticket ∷ r.scene.serving ∷ length r.scene.history ∷ r.guard_words;
          homes = homes_after s.homes m.1 a;
          views = set s.views i w;
        }) × looked (step slots 1 0 0 none) m r.scene.serving (
          w,
          carried_after m.1 a,
        )
    looks_at s stage r at true e =
        let k = r.kept in let c = r.scene in let v = m.0 in let kv = k.each i v at in
        let w = with_stage v Called in
        let m' : Me (Option V) (Sight N O) = (w, m.1) in
        let now : c.serving ≡ v.at = grind (arith, nat_tests) in
        let pass : IsPass v.stage = rw stage tt in
        let mine : Known c s.homes i w = record {
          maker = λ t e. absurd (cc e);
          opened = λ h. kv.opened (pass_live v.stage pass);
          parts = λ h. kv.parts pass;
          ticket = λ h. kv.ticket (rw stage tt);
          served = λ h. sym now;
          whole = absurd;
          away = absurd;
        } in (
          w,
          keeps,
          tt,
          record {
            scene = c;
            guard_words = r.guard_words;
            kept = moved c r.guard_words i w _ s.homes k at refl
                k.order (omega arith) k.numbers refl (λ n. refl) (λ n h. (tt, h.1))
                (waits_stay i w k at (λ t h. (tt, h.1))) k.unheard
                (slot_kept i w k at (rw stage (λ h. h)))
                mine (λ j u ne e. k.each j u e);
            locks = locks_view author touches o guards i w r.locks at refl refl
                (λ h. tt) (r.locks.news i v at);
          },
          rw e,
        )
    looks_at s stage r at false e =
        let k = r.kept in let c = r.scene in let v = m.0 in
        let m' : Me (Option V) (Sight N O) = (with_stage v Called, m.1) in (
          v,
          keeps,
          tt,
          record {
            scene = c;
            guard_words = r.guard_words;
            kept = moved c r.guard_words i v _ s.homes k at refl
                k.order (omega arith) k.numbers refl (λ n. refl) (λ n h. h)
                (waits_stay i v k at (λ t h. h)) k.unheard
                (slot_kept i v k at (rw stage (λ h. h)))
                (k.each i v at) (λ j u ne e. k.each j u e);
            locks = locks_view author touches o guards i v r.locks at refl refl (λ h. h)
                (r.locks.news i v at);
          },
          rw e,
        )

    pub looks : m.0.stage ≡ Drawn → Allows Rule slots i m 1 (λ n. n) (looked (step slots 1 0 0 none) m)
    looks stage s r len at fits =
        rw r.kept.words (looks_at s stage r at (r.scene.serving == m.0.at) refl)
