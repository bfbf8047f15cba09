-- Passes that are joined, one after another.
use Rattle.std.proofs.Common.{◌≡◌, ℕ, zero, suc, ◌<◌, List, [], ◌∷◌, ◌++◌, length, slice_index_or, Contains, refl}
use Rattle.std.proofs.Common.{ap, sym, ◌∙◌, arith, append_assoc, length-append, Option}
use Rattle.std.proofs.Math.Seq.{get_or-append_seam}
use Rattle.std.proofs.lemmas.List.{append-nil}
use Rattle.std.proofs.lemmas.List.Elements.{All-cons, Contains-append_left, Contains-append_right}
use Rattle.atomic_table.specs.declared.shared.Seat.{Seat}
use Rattle.ra_turn.specs.declared.story.Story.{Ghosts}
use Rattle.ra_turn.specs.declared.pass.Pass.{Pass}
use Rattle.ra_turn.specs.declared.turn.Turn.{Turn}
use Rattle.ra_turn.specs.declared.sight.Sight.{Sight}
use Rattle.ra_turn.specs.Passes.{EachAt, grips_of, IsPassOf, IsIdle, IsDone, IsJoined, passes_of}
use Rattle.ra_turn.specs.Seats.{HasNumbersBelow}
use Rattle.ra_turn.specs.Steps.{passes_joined}
use Rattle.ra_turn.proofs.Lists.{all_one, all_map}

-- there is an element at each place of a list
has_at : {A : Type 0} (xs : List A) (k : ℕ) → k < length xs → (x : A) × (slice_index_or xs k x ≡ x)
has_at [] k lt = absurd (omega arith)
has_at (x ∷ xs) zero lt = (x, refl)
has_at (x ∷ xs) (suc k) lt = has_at xs k (omega arith)

module _ {V N O : Type 0} {g : Ghosts V N O} where
  -- of the passes items, those that are left are not yet joined
  abbrev pub JoinedFrom : Turn V N O → List (Pass V N O g) → List (Pass V N O g) → Seat (Option V) (Sight N O) → Type 0
  JoinedFrom t left items s = (done : List (Pass V N O g)) × (left ++ done ≡ items) × IsJoined t done s

  module _ (t : Turn V N O) (items : List (Pass V N O g)) where
    module _ (left ps : List (Pass V N O g)) where
      -- the last pass but those that are joined
      last_done : (done : List (Pass V N O g)) (p : Pass V N O g) → EachAt (IsDone t) items →
          ps ≡ left ++ p ∷ [] → ps ++ done ≡ items → (left ++ (p ∷ done) ≡ items) × IsDone t (length left) p
      last_done done p each popped rest =
          let all = sym (append_assoc left _ done)
          ∙ (ap (λ xs. xs ++ done) (sym popped) ∙ rest) in
          let here : slice_index_or items (length left) p ≡ p =
          ap (λ xs. slice_index_or xs (length left) p) (sym all)
          ∙ get_or-append_seam left p done p in
          let below : length left < length items =
          (let n = ap length (sym all) ∙ length-append left _ in omega arith) in
          (all, rw (← here) (each _ p below))

      pub next_done : (p : Pass V N O g) (s : Seat (Option V) (Sight N O)) → EachAt (IsDone t) items →
          ps ≡ left ++ p ∷ [] → JoinedFrom t ps items s → IsPassOf t p × IsIdle p × (grips_of p ≡ [])
      next_done p s each popped from =
          let d = (last_done from.0 p each popped from.1).1 in (d.of, d.idle, d.grips)

      pub next_joined : (p : Pass V N O g)
          (s s' : Seat (Option V) (Sight N O)) → EachAt (IsDone t) items → ps ≡ left ++ p ∷ [] → JoinedFrom t ps items s
          → s'.table_id ≡ s.table_id → s'.me.0 ≡ passes_joined s.me.0 p.seat.me.0 → JoinedFrom t left items s'
      next_joined p s s' each popped from table view =
          let found = last_done from.0 p each popped from.1 in let j = from.2 in
          let v = s.me.0 in let w = p.seat.me.0 in
          let has : (v' : Sight N O) → Pass V N O g → Type 0 = λ v' q. Contains (v'.own ∷ v'.joined) q.seat.me.0.own in
          let old =
          all_map (has v) (has (passes_joined v w)) from.0
          (λ q h. Contains-append_left (v.own ∷ v.joined) (w.own ∷ w.joined) q.seat.me.0.own h) j.parts in
          let new : has (passes_joined v w) p = Contains-append_right (v.own ∷ v.joined) (w.own ∷ w.joined) w.own
          (0, omega arith, refl) in (
            p ∷ from.0,
            found.0,
            record {
              table = table ∙ j.table;
              idle = ap (λ x. x.stage) view ∙ j.idle;
              empty = ap (λ x. x.grips) view ∙ j.empty;
              parts = rw view (All-cons (has (passes_joined v w)) p from.0 new old);
            },
          )

    pub first_joined : (left : List (Pass V N O g)) (p : Pass V N O g) (s : Seat (Option V) (Sight N O)) →
        EachAt (IsDone t) items → items ≡ left ++ p ∷ [] → s ≡ p.seat → JoinedFrom t left items s
    first_joined left p s each popped same =
        let found = last_done left items [] p each popped (append-nil items) in
        let d = found.1 in
        rw same (
          p ∷ [],
          found.0,
          record {
            table = d.of.0;
            idle = d.idle.0;
            empty = d.grips;
            parts = all_one (λ q. Contains (p.seat.me.0.own ∷ p.seat.me.0.joined) q.seat.me.0.own) p []
                refl (0, omega arith, refl);
          },
        )

    pub all_joined : (s : Seat (Option V) (Sight N O)) → JoinedFrom t [] items s → IsJoined t items s
    all_joined s from = rw (← from.1) from.2

    -- a seat to which all passes were joined has every number
    pub joined_covers : (s : Seat (Option V) (Sight N O)) →
        length items ≡ passes_of t → EachAt (IsDone t) items → IsJoined t items s → HasNumbersBelow (passes_of t) s.me.0
    joined_covers s count each j k lt =
        let found = has_at items k (omega arith) in let p = found.0 in
        let d : IsDone t k p = rw (← found.1) (each k p (omega arith)) in (
          p.seat.me.0.own,
          rw (← found.1) (j.parts k p (omega arith)),
          p.numbered ∙ d.number,
        )
