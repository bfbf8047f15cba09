-- One seat's view changes, and the rule is kept.
use Rattle.std.proofs.Common.{◌≡◌, ◌≢◌, ℕ, ◌+◌, ◌<◌, ◌≤◌, List, [], ◌∷◌, length, set, ap, sym, ◌∙◌, inl, inr}
use Rattle.std.proofs.Common.{⊎_elim, arith, Option}
use mathlib.Core.Option.{some, some-injective}
use mathlib.Core.Option as maybe
use lib.ListN.{get_elem?}
use Rattle.atomic_table.specs.Table.{State}
use Rattle.atomic_table.proofs.Lists.{at_set, set_else}
use Rattle.ra_turn.specs.declared.sight.Sight.{Sight}
use Rattle.ra_turn.specs.Notes.{by}
use Rattle.ra_turn.specs.Law.{AtTicket, HasNumber, Scene, Kept, Knows, Slot, left_of_sight}
use Rattle.ra_turn.specs.Stages.{HasSlot}
use Rattle.ra_turn.proofs.Lists.{stands_at, sum_changes}

module _ {V N O : Type 0} (opening : V → O) (notes : V → List N) (author : N → ℕ) (passes turns : ℕ) (o : O) where
  -- if a seat that hasn't the slot gets another view, the slot stays where it is
  pub slot_stays : (history : List N) (serving : ℕ) (homes : List (maybe.Option (Option V))) (views : List (Sight N O))
      (i : ℕ) (v w : Sight N O) → get_elem? views i ≡ some v → ¬ HasSlot v.stage →
      Slot opening notes author passes turns o history serving homes views →
      Slot opening notes author passes turns o history serving homes (set views i w)
  slot_stays history serving homes views i v w at not slot = ⊎_elim (inl) (λ h. inr (
    h.0,
    h.1,
    record {
      out = h.2.out;
      seat = set_else views i h.0 w
          (λ e. not (rw (← some-injective h.1 v (sym h.2.seat ∙ (ap (get_elem? views) e ∙ at))) h.2.has)) ∙ h.2.seat;
      has = h.2.has;
      few = h.2.few;
    },
  )) slot

module _ {V N O : Type 0} {opening : V → O} {notes : V → List N} {author : N → ℕ} {passes turns : ℕ} {o : O} where
  -- a ticket stays with its seat if that gets another view with the same ticket
  pub waits_stay : {c : Scene N} {gs : List ℕ} {s : State (Option V) (Sight N O)} (i : ℕ) {v : Sight N O}
      (w : Sight N O) → Kept opening notes author passes turns o c gs s → get_elem? s.views i ≡ some v →
      ((t : ℕ) → AtTicket t v → AtTicket t w) → (t : ℕ) → c.serving ≤ t → t < c.ticket →
      (u : Sight N O) × AtTicket t u × (get_elem? (set s.views i w) (c.queue t) ≡ some u)
  waits_stay {c} {gs} {s} i {v} w k at has t from below =
      stands_at (AtTicket t) s.views i v w (c.queue t) at (has t) (k.waits t from below)

  -- the seat i goes from v to w, and what the others know stays true
  pub moved : {c : Scene N} (c' : Scene N) {gs : List ℕ} (gs' : List ℕ) {s : State (Option V) (Sight N O)}
      (i : ℕ) {v : Sight N O} (w : Sight N O) (ws : List ℕ) (homes : List (maybe.Option (Option V))) →
      Kept opening notes author passes turns o c gs s → get_elem? s.views i ≡ some v →
      ws ≡ c'.ticket ∷ c'.serving ∷ length c'.history ∷ gs' → c'.serving ≤ c'.ticket →
      c'.ticket + w.left ≤ c.ticket + v.left → c'.given ≤ passes → c'.given ≡ c.given →
      ((n : ℕ) → c'.owner n ≡ c.owner n) → ((n : ℕ) → HasNumber n v → HasNumber n w) → ((t : ℕ) → c'.serving ≤ t →
      t < c'.ticket → (u : Sight N O) × AtTicket t u × (get_elem? (set s.views i w) (c'.queue t) ≡ some u)) →
      ((n : ℕ) → c'.given ≤ n → by author n c'.history ≡ []) →
      Slot opening notes author passes turns o c'.history c'.serving homes (set s.views i w) →
      Knows author passes turns o c' homes i w → ((j : ℕ) (u : Sight N O) → j ≢ i → get_elem? s.views j ≡ some u →
      Knows author passes turns o c' homes j u) → Kept opening notes author passes turns o c' gs' (record {
        words = ws;
        homes = homes;
        views = set s.views i w;
      })
  moved {c} c' {gs} gs' {s} i {v} w ws homes k at words order fewer numbers given owner has waits unheard slot mine
      others =
      record {
        words = words;
        order = order;
        turns_left = (let e = sum_changes left_of_sight s.views i v w at in omega arith);
        waits = waits;
        numbers = numbers;
        given_out = λ n lt. (let g = k.given_out n (rw (← given) lt) in
            let found = stands_at _ s.views i v w (c.owner n) at (has n) g in
            (found.0, found.1, ap (get_elem? (set s.views i w)) (owner n) ∙ found.2));
        unheard = unheard;
        slot = slot;
        each = λ j u e. ⊎_elim
            (λ h. rw (← h.1, h.0) mine)
            (λ h. others j u h.0 h.1) (at_set s.views i j w u e);
      }

  -- so in a state that keeps the rule
  pub slot_kept : {c : Scene N} {gs : List ℕ} {s : State (Option V) (Sight N O)} (i : ℕ) {v : Sight N O}
      (w : Sight N O) → Kept opening notes author passes turns o c gs s → get_elem? s.views i ≡ some v →
      ¬ HasSlot v.stage → Slot opening notes author passes turns o c.history c.serving s.homes (set s.views i w)
  slot_kept {c} {gs} {s} i {v} w k at not =
      slot_stays opening notes author passes turns o c.history c.serving s.homes s.views i v w at not k.slot
