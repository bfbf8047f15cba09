-- The steps by which a turn ends keep the rule.
use Rattle.std.proofs.Common.{◌≡◌, ◌≢◌, ℕ, ◌+◌, ◌*◌, ◌%◌, ◌^◌, ◌<◌, ◌≤◌, ◌==◌, Bool, List, [], ◌∷◌, ◌++◌, length}
use Rattle.std.proofs.Common.{set, refl, ap, sym, ◌∙◌, inl, inr, ⊎_elim, eq-eqb, arith, Option, Some}
use Rattle.std.proofs.Common.{length-append}
use Rattle.std.proofs.Math.Nat.{mod-eq_of_lt}
use mathlib.Core.Option.{none, some, some-injective}
use mathlib.Core.Option as maybe
use prog.Atomic.{either}
use lib.ListN.{get_elem?}
use Rattle.atomic_table.specs.Table.{State, Me, Allows, step, keeps, gives}
use Rattle.atomic_table.proofs.Lists.{set_here}
use Rattle.ra_turn.specs.declared.sight.Part.{Part}
use Rattle.ra_turn.specs.declared.sight.Sight.{Sight}
use Rattle.ra_turn.specs.declared.sight.Stage.TheVariants.{Idle, Counted}
use Rattle.ra_turn.specs.Notes.{by, HoldsAll}
use Rattle.ra_turn.specs.Law.{AtTicket, Scene, Kept, Ruled, Fits, Knows}
use Rattle.ra_turn.specs.Stages.{IsPass, HasSlot, counted_by}
use Rattle.ra_turn.specs.Steps.{with_stage, with_seen, served, noted, HasOneMore, IsInTurnAt}
use Rattle.ra_turn.proofs.Lists.{stands_at, prefix_self, prefix_longer, at_below, all_one, all_map, by_other}
use Rattle.ra_turn.proofs.Stages.{slot_served, served_ticket, ticket_pass, pass_live, counted_most}
use Rattle.ra_turn.proofs.Keeps.{moved, waits_stay}
use Rattle.ra_turn.proofs.Latches.{locks_view, locks_note}
use Rattle.ra_turn.proofs.Turns.{few_notes, served_one, is_shut, renumbered}

module _ {V N O : Type 0} (opening : V → O) (notes : V → List N) (author : N → ℕ) (touches : O → N → ℕ → Bool)
    (passes turns guards : ℕ) (o : O) where
  abbrev Rule : State (Option V) (Sight N O) → Type 0
  Rule = Ruled opening notes author touches passes turns guards o

  abbrev Base : Scene N → List ℕ → State (Option V) (Sight N O) → Type 0
  Base = Kept opening notes author passes turns o

  abbrev Known : Scene N → List (maybe.Option (Option V)) → ℕ → Sight N O → Type 0
  Known = Knows author passes turns o

  -- a seat that has the slot is the one with which it is out
  out_with : (c : Scene N) (gs : List ℕ) (s : State (Option V) (Sight N O)) (i : ℕ) (v : Sight N O) → Base c gs s →
      get_elem? s.views i ≡ some v → HasSlot v.stage → length c.history ≤ c.serving + counted_by v.stage
  out_with c gs s i v k at has =
      let kv = k.each i v at in
      ⊎_elim (λ h. absurd (let e = sym (kv.away has) ∙ h.1.here in cc e))
      (λ h. let out = h.2 in let u = h.1 in
      let one = served_one opening notes author touches passes turns guards o c s.homes h.0 i u v
      (k.each h.0 u out.seat) kv (slot_served u.stage out.has) (slot_served v.stage has) in
      let same = some-injective u v (sym out.seat ∙ (ap (get_elem? s.views) one ∙ at)) in
      rw (← same) out.few)
      k.slot

  module _ (slots i : ℕ) (m : Me (Option V) (Sight N O)) where
    -- a note is counted
    pub notes_one : (old : ℕ) (said : Option V) (x : V) → passes * turns < 2 ^ 62 → IsInTurnAt m.0 old → said ≡ Some x →
        HasOneMore opening notes author touches m.0 x → Allows Rule slots i m 2 (λ f. either (f == old) (old + 1) f)
        (noted notes author (step slots 2 old (old + 1) (some said)) m)
    notes_one old said x small in_turn saying one_more s r len at fits =
        let n = one_more.note in let stage = in_turn.stage in let mine_is = one_more.own in
        let k = r.kept in let c = r.scene in let v = m.0 in let kv = k.each i v at in
        let has : HasSlot v.stage = rw stage tt in
        let sv = slot_served v.stage has in
        let pass : IsPass v.stage = rw stage tt in
        let c' : Scene N = record c { history = notes x } in
        let w = with_seen author v Counted _ in
        let whole = kv.whole has in
        let one_opening : opening x ≡ o = (let e = sym one_more.opened ∙ kv.opened (pass_live v.stage pass) in cc e) in
        let holds : HoldsAll touches o v.grips n =
        rw (← one_opening) one_more.held in
        let longer = one_more.added ∙ ap (λ xs. xs ++ n ∷ []) whole in
        let longer_by_one : length (notes x) ≡ length c.history + 1 = ap length longer
        ∙ length-append c.history (n ∷ []) in
        let hit =
        eq-eqb (length c.history) old (ap length (sym whole) ∙ in_turn.count) in
        let raised : either (length c.history == old) (old + 1) (length c.history) ≡ length (notes x) =
        ap (λ b. either b (old + 1) (length c.history)) hit ∙ (let e = ap length whole in omega arith) in
        let few = out_with c r.guard_words s i v k at has in
        let zero_counted : counted_by v.stage ≡ 0 = ap counted_by stage in
        let fits_own = (kv.parts pass) 0 v.own (omega arith) in
        let own : Fits author (notes x) c.given c.owner i w.own = record {
          below = fits_own.below;
          owned = fits_own.owned;
          seen = prefix_self _;
          mine = refl;
          own_seen = refl;
        } in
        let mine : Known c' s.homes i w = record {
          maker = λ t e. absurd (cc e);
          opened = λ z. kv.opened (pass_live v.stage pass);
          parts = λ z. all_one (Fits author (notes x) c.given c.owner i) w.own v.joined in_turn.alone own;
          ticket = λ z. kv.ticket (served_ticket v.stage sv);
          served = λ z. kv.served sv;
          whole = λ z. refl;
          away = λ z. kv.away has;
        } in
        let keeps_part : (j : ℕ) → j ≢ i → (p : Part N) → Fits author c.history c.given c.owner j p →
        Fits author (notes x) c.given c.owner j p = λ j ne p f.
        let apart : author n ≢ p.number = λ e. ne (sym f.owned ∙ (ap c.owner (sym e ∙ mine_is) ∙ fits_own.owned)) in
        record {
          below = f.below;
          owned = f.owned;
          seen = rw longer (prefix_longer p.seen c.history _ f.seen);
          mine = ap (by author p.number) longer ∙ (by_other author p.number c.history n apart ∙ f.mine);
          own_seen = f.own_seen;
        } in
        let others : (j : ℕ) (u : Sight N O) → j ≢ i → get_elem? s.views j ≡ some u → Known c' s.homes j u =
        λ j u ne e. let ku = k.each j u e in record {
          maker = ku.maker;
          opened = ku.opened;
          parts = λ z. all_map (Fits author c.history c.given c.owner j) (Fits author (notes x) c.given c.owner j)
              (u.own ∷ u.joined) (keeps_part j ne) (ku.parts z);
          ticket = ku.ticket;
          served = ku.served;
          whole = λ z.
              absurd (ne (served_one opening notes author touches passes turns guards o c s.homes j i u v ku kv
              (slot_served u.stage z) sv));
          away = ku.away;
        } in
        let unheard : (q : ℕ) → c.given ≤ q → by author q (notes x) ≡ [] = λ q ge.
        let below = fits_own.below in
        let apart : author n ≢ q = λ e. absurd (omega (arith, sym mine_is ∙ e)) in
        ap (by author q) longer ∙ (by_other author q c.history n apart ∙ k.unheard q ge) in
        rw k.words (
          w,
          keeps,
          tt,
          record {
            scene = c';
            guard_words = r.guard_words;
            kept = moved c' r.guard_words i w _ s.homes k at
                (rw raised) k.order (omega arith) k.numbers refl
                (λ n. refl) (λ n q.
                (tt, renumbered opening notes author touches passes turns guards o n v w refl refl q.1))
                (waits_stay i w k at (λ t q. (tt, q.1)))
                unheard
                (inr (
                  i,
                  w,
                  record {
                    out = kv.away has;
                    seat = set_here s.views i w (at_below s.views i v at);
                    has = tt;
                    few = omega arith;
                  },
                ))
                mine others;
            locks = locks_note author touches o guards c.history
                (notes x) r.guard_words s.views i v w n r.locks at longer
                mine_is holds refl refl (λ h. tt) refl;
          },
          (
            fits_own.own_seen,
            λ y e. (let same : x ≡ y = cc (e, saying) in (
              rw same,
              rw (← same) (let f = few_notes opening notes author touches passes turns guards o c r.guard_words s i v k
                  at
                  sv in omega arith),
            )),
          ),
        )

    -- the value is put back into the slot, and the next ticket is served
    pub serves : (x : V) → passes * turns < 2 ^ 62 → HasSlot m.0.stage →
        m.1 ≡ (0, Some x) ∷ [] → notes x ≡ m.0.own.seen → m.0.opened ≡ Some (opening x)
        → Allows Rule slots i m 1 (λ n. (n + 1) % 2 ^ 64) (served author touches (step slots 1 1 0 none) m)
    serves x small has carried same opened s r len at fits =
        let k = r.kept in let c = r.scene in let v = m.0 in let kv = k.each i v at in
        let sv = slot_served v.stage has in
        let pass = ticket_pass v.stage (served_ticket v.stage sv) in
        let few = few_notes opening notes author touches passes turns guards o c r.guard_words s i v k at sv in
        let next : (c.serving + 1) % 2 ^ 64 ≡ c.serving + 1 = mod-eq_of_lt (omega arith) in
        let c' : Scene N = record c { serving = c.serving + 1 } in
        let w = with_stage v Idle in
        let homes' = set s.homes 0 (some (Some x)) in
        let back : homes' ≡ some (Some x) ∷ [] = rw (kv.away has) in
        let ticket = kv.ticket (served_ticket v.stage sv) in
        let now = kv.served sv in
        let counted = out_with c r.guard_words s i v k at has in
        let at_most = counted_most v.stage in
        let mine : Known c' homes' i w = record {
          maker = λ t e. absurd (cc e);
          opened = λ z. kv.opened (pass_live v.stage pass);
          parts = λ z. kv.parts pass;
          ticket = absurd;
          served = absurd;
          whole = absurd;
          away = absurd;
        } in
        let others : (j : ℕ) (u : Sight N O) → j ≢ i → get_elem? s.views j ≡ some u → Known c' homes' j u =
        λ j u ne e. let ku = k.each j u e in record {
          maker = ku.maker;
          opened = ku.opened;
          parts = ku.parts;
          ticket = λ z. (let t = ku.ticket z in
              let later : u.at ≢ c.serving = λ q. ne (sym t.2 ∙ (ap c.queue (q ∙ sym now) ∙ ticket.2)) in
              (omega arith, t.1, t.2));
          served = λ z.
              absurd (ne (served_one opening notes author touches passes turns guards o c s.homes j i u v ku kv z sv));
          whole = ku.whole;
          away = λ z. absurd
              (ne (served_one opening notes author touches passes turns guards o c s.homes j i u v ku kv
              (slot_served u.stage z) sv));
        } in
        let waits : (t : ℕ) → c.serving + 1 ≤ t → t < c.ticket → (u : Sight N O) × AtTicket t u
        × (get_elem? (set s.views i w) (c.queue t) ≡ some u) = λ t from below.
        stands_at (AtTicket t) s.views i v w (c.queue t) at (λ h. absurd (let e = h.1 in omega arith))
        (k.waits t (omega arith) below) in
        rw (k.words, carried) ((
          w,
          gives,
          tt,
          record {
            scene = c';
            guard_words = r.guard_words;
            kept = moved c' r.guard_words i w _ homes' k at
                (rw next) (omega arith) (omega arith)
                k.numbers refl (λ n. refl) (λ n q. (tt, q.1)) waits k.unheard
                (inl (
                  x,
                  record {
                    here = back;
                    same = same ∙ kv.whole has;
                    opened = cc (opened, kv.opened (pass_live v.stage pass));
                    few = omega arith;
                  },
                ))
                mine others;
            locks = locks_view author touches o guards i w r.locks at refl refl
                (λ h. tt) (r.locks.news i v at);
          },
          (
            refl,
            is_shut opening notes author touches passes turns guards o c r.guard_words s.views i v r.locks at
                v.own.seen v.grips v.own.number (kv.opened (pass_live v.stage pass)) (kv.whole has) refl refl,
          ),
        ))
