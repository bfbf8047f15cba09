-- The first state, seats that are cut and joined, and the last state.
use Rattle.std.proofs.Common.{◌≡◌, ◌≢◌, ℕ, zero, suc, ◌+◌, ◌*◌, ◌<◌, ◌≤◌, ◌==◌, Bool, cond, List, [], ◌∷◌, ◌++◌}
use Rattle.std.proofs.Common.{length, set, slice_index, All, refl, ap, sym, subst, ◌∙◌, inl, inr, ⊎_elim, ne_eqb}
use Rattle.std.proofs.Common.{eq-eqb, arith, Option, Some}
use Rattle.std.proofs.Math.Nat.{mul-le-mul_right, suc-mul}
use Rattle.std.proofs.Math.ListN.{length-set}
use Rattle.std.proofs.lemmas.List.Elements.{All-append, All-contains, Contains-append_left, Contains-append_right}
use Rattle.std.proofs.lemmas.List.Sums.{sum_by_push}
use mathlib.Core.Option.{none, some, some-injective, some-ne-none}
use mathlib.Core.Option as maybe
use mathlib.Core.Logic.{dite}
use native.Mathlib.Decide.{ℕ_discrete}
use lib.ListN.{get_elem?}
use Rattle.atomic_table.specs.Table.{State, Splits, Joins, Final, Seen, opening as start}
use Rattle.atomic_table.proofs.Lists.{at_set, set_else, set_here, at_longer, at_last}
use Rattle.ra_turn.specs.declared.sight.Part.{Part}
use Rattle.ra_turn.specs.declared.sight.Sight.{Sight}
use Rattle.ra_turn.specs.declared.sight.Stage.TheVariants.{Maker, Idle}
use Rattle.ra_turn.specs.Notes.{StandsInNotes}
use Rattle.ra_turn.specs.Seats.{HasNumbersBelow}
use Rattle.ra_turn.specs.Law.{AtTicket, HasNumber, Scene, Ruled, Fits, Knows, Slot, left_of_sight, maker}
use Rattle.ra_turn.specs.Stages.{IsPass, HasTicket, IsServed, HasSlot}
use Rattle.ra_turn.specs.Steps.{cut_left, cut_right, turns_of, passes_joined, spent}
use Rattle.ra_turn.proofs.Lists.{stands_at, at_end, at_below, sum_changes, all_one, all_map}
use Rattle.ra_turn.proofs.Stages.{slot_ticket, ticket_pass}
use Rattle.ra_turn.proofs.Keeps.{slot_kept, slot_stays}
use Rattle.ra_turn.proofs.Versions.{all_below}
use Rattle.ra_turn.proofs.Latches.{locks_start, locks_view, locks_more, locks_less}

-- one pass more has its turns
more_turns : (given passes turns : ℕ) → given < passes → given * turns + turns ≤ passes * turns
more_turns given passes turns lt =
    let h = mul-le-mul_right turns lt in omega (arith, suc-mul given turns)

module _ {V N O : Type 0} (opening : V → O) (notes : V → List N) (author : N → ℕ) (touches : O → N → ℕ → Bool)
    (passes turns guards : ℕ) (o : O) where
  abbrev Rule : State (Option V) (Sight N O) → Type 0
  Rule = Ruled opening notes author touches passes turns guards o

  abbrev Known : Scene N → List (maybe.Option (Option V)) → ℕ → Sight N O → Type 0
  Known = Knows author passes turns o

  -- what the maker's seat knows at the start
  first_knows : (c : Scene N) (homes : List (maybe.Option (Option V))) → c.given ≡ 0 → (i : ℕ) (v : Sight N O) →
      get_elem? (maker passes turns o ∷ []) i ≡ some v → Known c homes i v
  first_knows c homes none_given zero v e =
      subst (Known c homes 0) (some-injective (maker passes turns o) v e) (record {
        maker = λ t h. (let same : turns ≡ t = cc h in record {
          seat = refl;
          turns_each = sym same;
          numbers = sym none_given;
          left = (let z : c.given * t ≡ 0 = ap (λ g. g * t) none_given ∙ omega arith in
              let all : passes * turns ≡ passes * t = rw same in omega arith);
        });
        opened = λ h. refl;
        parts = absurd;
        ticket = absurd;
        served = absurd;
        whole = absurd;
        away = absurd;
      })
  first_knows c homes none_given (suc i) v e = absurd (some-ne-none v (sym e))

  -- the table as it is made
  pub starts : (ws gs : List ℕ) (x : V) → ws ≡ 0 ∷ 0 ∷ 0 ∷ gs → length gs ≡ guards → ((g : ℕ) → slice_index gs g ≡ 0) →
      notes x ≡ [] → opening x ≡ o → Rule (start ws (Some x ∷ []) (maker passes turns o))
  starts ws gs x words count zeros empty opened =
      let c : Scene N = record { ticket = 0; serving = 0; history = []; given = 0; queue = λ t. 0; owner = λ n. 0 } in
      record {
        scene = c;
        guard_words = gs;
        kept = record {
          words = words;
          order = omega arith;
          turns_left = omega arith;
          waits = λ t from below. absurd (omega arith);
          numbers = omega arith;
          given_out = λ n lt. absurd (omega arith);
          unheard = λ n ge. refl;
          slot = inl (x, record { here = refl; same = empty; opened = opened; few = omega arith });
          each = first_knows c (some _ ∷ []) refl;
        };
        locks = locks_start author touches o guards gs (maker passes turns o) count zeros refl refl;
      }

  -- a longer list of views
  slot_longer : (history : List N) (serving : ℕ) (homes : List (maybe.Option (Option V)))
      (views more : List (Sight N O)) → Slot opening notes author passes turns o history serving homes views →
      Slot opening notes author passes turns o history serving homes (views ++ more)
  slot_longer history serving homes views more slot = ⊎_elim (inl) (λ h. inr (
    h.0,
    h.1,
    record {
      out = h.2.out;
      seat = at_longer views more h.0 h.1 h.2.seat;
      has = h.2.has;
      few = h.2.few;
    },
  )) slot

  module _ (i : ℕ) (v : Sight N O) where
    -- a pass is cut from the maker's seat
    pub cuts : v.stage ≡ Maker turns → v.at < passes → Splits Rule i v (cut_left v) (cut_right v)
    cuts stage room s r at =
        let k = r.kept in let c = r.scene in let kv = k.each i v at in
        let made = kv.maker turns stage in
        let c' : Scene N =
        record c { given = c.given + 1; owner = λ n. cond (n == c.given) (length s.views) (c.owner n) } in
        let left = cut_left v in let right = cut_right v in
        let views' = set s.views i left in
        let gets : turns_of v.stage ≡ turns = ap turns_of stage in
        let enough =
        more_turns c.given passes turns (let e = made.numbers in omega arith) in
        let next : (c.given + 1) * turns ≡ c.given * turns + turns = ap (λ g. g * turns) (omega arith)
        ∙ suc-mul c.given turns in
        let has = made.left in
        let none_has : ¬ HasSlot v.stage = rw stage (λ h. h) in
        let fits : (j : ℕ) (p : Part N) → Fits author c.history c.given c.owner j p →
        Fits author c.history c'.given c'.owner j p = λ j p f.
        let below = f.below in record {
          below = omega arith;
          owned = ap (λ b. cond b (length s.views) (c.owner p.number))
              (ne_eqb p.number c.given (λ e. omega arith)) ∙ f.owned;
          seen = f.seen;
          mine = f.mine;
          own_seen = f.own_seen;
        } in
        let first : Known c' s.homes i left = record {
          maker = λ t e. (let m = kv.maker t e in let same = m.turns_each in
              record {
                seat = m.seat;
                turns_each = m.turns_each;
                numbers = rw m.numbers;
                left = rw same (omega arith);
              });
          opened = λ h. kv.opened h;
          parts = λ h. absurd (subst IsPass stage h);
          ticket = λ h. absurd (subst HasTicket stage h);
          served = λ h. absurd (subst IsServed stage h);
          whole = λ h. absurd (subst HasSlot stage h);
          away = λ h. absurd (subst HasSlot stage h);
        } in
        let here : c'.owner v.at ≡ length s.views = rw (eq-eqb v.at c.given made.numbers) in
        let newest : Known c' s.homes (length s.views) right = record {
          maker = λ t e. absurd (cc e);
          opened = λ h. kv.opened (rw stage tt);
          parts = λ h. all_one (Fits author c.history c'.given c'.owner (length s.views)) right.own [] refl (record {
            below = (let e = made.numbers in omega arith);
            owned = here;
            seen = (c.history, refl);
            mine = k.unheard v.at (let e = made.numbers in omega arith);
            own_seen = refl;
          });
          ticket = λ h. absurd h;
          served = λ h. absurd h;
          whole = λ h. absurd h;
          away = λ h. absurd h;
        } in
        let others : (j : ℕ) (u : Sight N O) → j ≢ i → get_elem? s.views j ≡ some u → Known c' s.homes j u =
        λ j u ne e. let ku = k.each j u e in record {
          maker = λ t h. absurd (ne ((ku.maker t h).seat ∙ sym made.seat));
          opened = ku.opened;
          parts = λ h. all_map (Fits author c.history c.given c.owner j) (Fits author c.history c'.given c'.owner j)
              (u.own ∷ u.joined) (fits j) (ku.parts h);
          ticket = ku.ticket;
          served = ku.served;
          whole = ku.whole;
          away = ku.away;
        } in
        record {
          scene = c';
          guard_words = r.guard_words;
          kept = record {
            words = k.words;
            order = k.order;
            turns_left = (let a = sum_changes left_of_sight s.views i v left at in let b =
                sum_by_push left_of_sight views' right in
                let t = k.turns_left in omega arith);
            waits = λ t from below.
                (let g = stands_at (AtTicket t) s.views i v left (c.queue t) at
                (λ h. absurd (subst HasTicket stage h.0))
                (k.waits t from below) in
                (g.0, g.1, at_longer views' (right ∷ []) (c.queue t) g.0 g.2));
            numbers = (let e = made.numbers in omega arith);
            given_out = λ n lt. dite (ℕ_discrete n c.given)
                (λ e. (let turned : c'.owner n ≡ length s.views = rw (eq-eqb n c.given e) in (
                  right,
                  (tt, (right.own, (0, omega arith, refl), made.numbers ∙ sym e)),
                  ap (get_elem? (views' ++ right ∷ [])) turned
                      ∙ at_last views' right (length s.views) (length-set s.views i left),
                )))
                (λ ne. (let kept : c'.owner n ≡ c.owner n = rw (ne_eqb n c.given ne) in
                let g = stands_at (HasNumber n) s.views i v left (c.owner n) at (λ h. absurd (subst IsPass stage h.0))
                (k.given_out n (omega arith)) in (
                  g.0,
                  g.1,
                  ap (get_elem? (views' ++ right ∷ [])) kept
                      ∙ at_longer views' (right ∷ []) (c.owner n) g.0 g.2,
                )));
            unheard = λ n ge. k.unheard n (omega arith);
            slot = slot_longer c.history c.serving s.homes views' (right ∷ [])
                (slot_kept i left k at none_has);
            each = λ j u e. ⊎_elim
                (λ h. ⊎_elim
                (λ q. rw (← q.1, q.0) first)
                (λ q. others j u q.0 q.1) (at_set s.views i j left u h))
                (λ h. rw (← h.1, (h.0 ∙ length-set s.views i left)) newest)
                (at_end views' right u j e);
          };
          locks = locks_more author touches o guards right
              (locks_view author touches o guards i left r.locks at refl refl (λ h. h)
              (r.locks.news i v at)) refl refl;
        }

    -- one pass is joined to another, and both have no guard locked
    pub glues : (other : ℕ) (w : Sight N O) → v.stage ≡ Idle → w.stage ≡ Idle → v.grips ≡ [] →
        w.grips ≡ [] → Joins Rule i v other w (passes_joined v w) spent
    glues other w stage stage' empty empty' s r at apart at' =
        let k = r.kept in let c = r.scene in let kv = k.each i v at in
        let both = passes_joined v w in
        let views' = set s.views i both in
        let there = sym (set_else s.views i other both apart) ∙ at' in
        let kw = k.each other w there in
        let c' : Scene N = record c { owner = λ n. cond (c.owner n == other) i (c.owner n) } in
        let stays : (j : ℕ) → j ≢ other → (p : Part N) → Fits author c.history c.given c.owner j p →
        Fits author c.history c.given c'.owner j p = λ j ne p f. record {
          below = f.below;
          owned = ap (λ b. cond b i (c.owner p.number))
              (ne_eqb (c.owner p.number) other (λ e. ne (sym f.owned ∙ e))) ∙ f.owned;
          seen = f.seen;
          mine = f.mine;
          own_seen = f.own_seen;
        } in
        let comes : (p : Part N) → Fits author c.history c.given c.owner other p →
        Fits author c.history c.given c'.owner i p = λ p f. record {
          below = f.below;
          owned = rw (eq-eqb (c.owner p.number) other f.owned);
          seen = f.seen;
          mine = f.mine;
          own_seen = f.own_seen;
        } in
        let i_apart : i ≢ other = λ e. apart (sym e) in
        let first : Known c' s.homes i both = record {
          maker = λ t e. absurd (let z = sym stage ∙ e in cc z);
          opened = λ h. kv.opened h;
          parts = λ h. All-append (Fits author c.history c.given c'.owner i) (v.own ∷ v.joined) (w.own ∷ w.joined)
              (all_map (Fits author c.history c.given c.owner i) (Fits author c.history c.given c'.owner i)
              (v.own ∷ v.joined) (stays i i_apart) (kv.parts h))
              (all_map (Fits author c.history c.given c.owner other) (Fits author c.history c.given c'.owner i)
              (w.own ∷ w.joined) comes (kw.parts (rw stage' tt)));
          ticket = λ h. absurd (subst HasTicket stage h);
          served = λ h. absurd (subst IsServed stage h);
          whole = λ h. absurd (subst HasSlot stage h);
          away = λ h. absurd (subst HasSlot stage h);
        } in
        let last : Known c' s.homes other spent = record {
          maker = λ t e. absurd (cc e);
          opened = λ h. absurd h;
          parts = λ h. absurd h;
          ticket = λ h. absurd h;
          served = λ h. absurd h;
          whole = λ h. absurd h;
          away = λ h. absurd h;
        } in
        let others : (j : ℕ) (u : Sight N O) → j ≢ other → get_elem? s.views j ≡ some u → Known c' s.homes j u =
        λ j u ne e. let ku = k.each j u e in record {
          maker = ku.maker;
          opened = ku.opened;
          parts = λ h. all_map (Fits author c.history c.given c.owner j) (Fits author c.history c.given c'.owner j)
              (u.own ∷ u.joined) (stays j ne) (ku.parts h);
          ticket = ku.ticket;
          served = ku.served;
          whole = ku.whole;
          away = ku.away;
        } in
        let idle : (x : Sight N O) → x.stage ≡ Idle → ¬ HasSlot x.stage =
        λ x e. rw e (λ h. h) in
        record {
          scene = c';
          guard_words = r.guard_words;
          kept = record {
            words = k.words;
            order = k.order;
            turns_left =
                (let a = sum_changes left_of_sight s.views i v both at in
                let b = sum_changes left_of_sight views' other w spent at' in let t = k.turns_left in omega arith);
            waits = λ t from below. stands_at (AtTicket t) views' other w spent (c.queue t) at'
                (λ h. absurd (subst HasTicket stage' h.0))
                (stands_at (AtTicket t) s.views i v both (c.queue t) at (λ h. absurd (subst HasTicket stage h.0))
                (k.waits t from below));
            numbers = k.numbers;
            given_out = λ n lt. dite (ℕ_discrete (c.owner n) other)
                (λ e. (let turned : c'.owner n ≡ i = rw (eq-eqb (c.owner n) other e) in
                let g = k.given_out n lt in
                let same = some-injective g.0 w (sym g.2 ∙ (ap (get_elem? s.views) e ∙ there)) in
                let has : HasNumber n w = rw (← same) g.1 in (
                  both,
                  (
                    rw stage tt,
                    (
                      has.1.0,
                      Contains-append_right (v.own ∷ v.joined) (w.own ∷ w.joined) has.1.0 has.1.1,
                      has.1.2,
                    ),
                  ),
                  ap (get_elem? (set views' other spent)) turned
                      ∙ (set_else views' other i spent i_apart ∙ set_here s.views i both (at_below s.views i v at)),
                )))
                (λ ne. (let kept : c'.owner n ≡ c.owner n = rw (ne_eqb (c.owner n) other ne) in
                let g = stands_at (HasNumber n) s.views i v both (c.owner n) at
                (λ h. (h.0, (h.1.0, Contains-append_left (v.own ∷ v.joined) (w.own ∷ w.joined) h.1.0 h.1.1, h.1.2)))
                (k.given_out n lt) in (
                  g.0,
                  g.1,
                  ap (get_elem? (set views' other spent)) kept
                      ∙ (set_else views' other (c.owner n) spent ne ∙ g.2),
                )));
            unheard = k.unheard;
            slot = slot_stays opening notes author passes turns o c.history c.serving s.homes views' other w spent at'
                (idle w stage')
                (slot_kept i both k at (idle v stage));
            each = λ j u e. ⊎_elim
                (λ h. rw (← h.1) (rw h.0 last))
                (λ h. ⊎_elim
                (λ q. rw (← q.1) (rw q.0 first))
                (λ q. others j u h.0 q.1) (at_set s.views i j both u h.1))
                (at_set views' other j spent u e);
          };
          locks = locks_less author touches o guards other spent
              (locks_view author touches o guards i both r.locks at refl refl (λ h. h)
              (r.locks.news i v at)) at' empty' refl refl;
        }

    -- if one idle seat has every number, the slot is at home, and its value has the history that the seat knows
    pub ends : (ws : List ℕ) (xs : List (Option V)) → v.stage ≡ Idle → HasNumbersBelow passes v →
        Final (Seen Rule i v) ws xs → (x : V) × (get_elem? xs 0 ≡ some (Some x)) × (opening x ≡ o) × All
        (StandsInNotes author (notes x)) (v.own ∷ v.joined) × All (λ n. author n < passes) (notes x)
    ends ws xs stage covers final =
        let s = final.0 in let r = final.1.0 in let k = r.kept in let c = r.scene in let at = final.1.1 in
        let kv = k.each i v at in
        let parts = kv.parts (rw stage tt) in
        ⊎_elim
        (λ h. let x = h.0 in let home = h.1 in (
          x,
          final.4 0 (Some x) (rw home.here),
          home.opened,
          all_map (Fits author c.history c.given c.owner i) (StandsInNotes author (notes x)) (v.own ∷ v.joined)
              (λ p f. rw home.same (record { seen = f.seen; mine = f.mine })) parts,
          rw home.same (all_below author passes c.given c.history k.numbers k.unheard),
        ))
        (λ h. let j = h.0 in let u = h.1 in let out = h.2 in let ku = k.each j u out.seat in
        let pass = ticket_pass u.stage (slot_ticket u.stage out.has) in
        let f = (ku.parts pass) 0 u.own (omega arith) in
        let below = f.below in
        let most = k.numbers in
        let found = covers u.own.number (omega arith) in
        let g = All-contains (Fits author c.history c.given c.owner i) (v.own ∷ v.joined) found.0 parts found.1 in
        let one = sym f.owned ∙ (ap c.owner (sym found.2) ∙ g.owned) in
        let same = some-injective u v (sym out.seat ∙ (ap (get_elem? s.views) one ∙ at)) in
        absurd (rw stage at (rw same at out.has)))
        k.slot
