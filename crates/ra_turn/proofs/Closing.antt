-- The value that comes out of a lock.
use Rattle.std.proofs.Common.{◌≡◌, ℕ, ◌<◌, List, ◌∷◌, length, slice_index_or, All, IsSome, refl, ap, sym, subst, ◌∙◌}
use Rattle.std.proofs.Common.{Option, Some}
use mathlib.Core.Option.{some, some-injective}
use lib.ListN.{get_elem?}
use Rattle.atomic_table.specs.Table.{State, Final, Seen}
use Rattle.atomic_table.specs.declared.shared.Seat.{Seat}
use Rattle.ra_turn.specs.declared.story.Story.{Ghosts}
use Rattle.ra_turn.specs.declared.pass.Pass.{Pass}
use Rattle.ra_turn.specs.declared.turn.Turn.{Turn}
use Rattle.ra_turn.specs.declared.sight.Sight.{Sight}
use Rattle.ra_turn.specs.Law.{Ruled}
use Rattle.ra_turn.specs.Notes.{by, StandsInNotes}
use Rattle.ra_turn.specs.Passes.{EachAt, IsDone, IsJoined, IsPartOf, opening_of, passes_of, turns_of_each, guards_of}
use Rattle.std.proofs.lemmas.List.Elements.{All-contains}
use Rattle.ra_turn.proofs.Ends.{ends}
use Rattle.ra_turn.proofs.Joining.{joined_covers}

-- the rule of the lock's table
abbrev Rule : {V N O : Type 0} → Ghosts V N O → Turn V N O → State (Option V) (Sight N O) → Type 0
Rule g t = Ruled g.opening g.notes g.author g.touches (passes_of t) (turns_of_each t) (guards_of t)
    (opening_of g.opening t)

module _ {V N O : Type 0} {g : Ghosts V N O} (t : Turn V N O) (items : List (Pass V N O g)) (s : Seat (Option V)
    (Sight N O)) (ws : List ℕ) (xs : List (Option V)) (y : Option V) where
  -- the slot has a value with the lock's opening, and what each pass knows is true of its notes
  pub comes_out : (x : V) → length items ≡ passes_of t → EachAt (IsDone t) items → IsJoined t items s →
      Final (Seen (Rule g t) s.id s.me.0) ws xs → get_elem? xs 0 ≡ some y → y ≡ Some x →
      (g.opening x ≡ opening_of g.opening t) × All (IsPartOf (g.notes x)) items × All (λ n. g.author n < passes_of t)
      (g.notes x)
  comes_out x count each j final at is =
      let end = ends g.opening g.notes g.author g.touches _ _ _
      _ s.id s.me.0 ws xs j.idle (joined_covers t items s count each j) final in
      let same = some-injective _ y (sym end.1 ∙ at) ∙ is in
      let one : end.0 ≡ x = cc same in
      rw (← one) (
        end.2,
        λ k p lt. (let q = slice_index_or items k p in
            let f = All-contains (StandsInNotes g.author (g.notes end.0)) (s.me.0.own ∷ s.me.0.joined)
            q.seat.me.0.own end.3 (j.parts k p lt) in
            (f.seen, ap (λ n. by g.author n (g.notes end.0)) (sym q.numbered) ∙ f.mine)),
        end.4,
      )

  -- the slot isn't empty
  pub is_there : length items ≡ passes_of t → EachAt (IsDone t) items → IsJoined t items s →
      Final (Seen (Rule g t) s.id s.me.0) ws xs → get_elem? xs 0 ≡ some y → IsSome y
  is_there count each j final at =
      let end = ends g.opening g.notes g.author g.touches _ _ _
      _ s.id s.me.0 ws xs j.idle (joined_covers t items s count each j) final in
      subst IsSome (some-injective _ y (sym end.1 ∙ at)) refl
