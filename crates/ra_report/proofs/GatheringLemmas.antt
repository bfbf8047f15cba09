-- One text is added after another.
use Rattle.std.proofs.Common.{arith, ◌≡◌, ℕ, ◌≤◌, Bool, true, false, List, [], ◌++◌, length, take, get_or, Option, refl, sym, subst, ◌∙◌, ap, append_assoc, le_trans, le_refl, ◌+◌, ◌<◌, Result, Ok, Err, OnOk, OnErr}
use Rattle.std.proofs.lemmas.List.{append-nil}
use Rattle.std.proofs.lemmas.Result.{on_err_weaker, on_ok_weaker}
use Rattle.std.proofs.KnownBytes.{Appends-nil, Appends-trans}
use Rattle.std.specs.List.{flat_map}
use Rattle.std.specs.Result.{is_err}
use Rattle.ra_io.specs.Faults.{Rose}
use Rattle.ra_io.specs.Pieces.{AppendsPart}
use Rattle.std.specs.Io.KnownBytes.{Appends}
use Rattle.ra_report.specs.declared.gathered.Gathered.{Gathered}
use Rattle.ra_report.specs.declared.pieces.Piece.{Piece}
use Rattle.ra_report.specs.Pieces.{bytes_of, piece_bytes, BreaksOff}
use Rattle.ra_report.specs.Gathering.{MovesText, AddsText}
use Rattle.ra_report.specs.Writes.{Writes}
use Rattle.ra_report.proofs.PieceLemmas.{breaks_after, breaks_before, bytes_take, words_take}

-- what follows two puts, one after the other
pub two_puts : (p q u v w s t : List ℕ) → p ++ v ≡ u ++ s → q ++ w ≡ v ++ t → (p ++ q) ++ w ≡ u ++ (s ++ t)
two_puts p q u v w s t first next =
    append_assoc p q w
    ∙ (ap (λ l. p ++ l) next
    ∙ (sym (append_assoc p v t) ∙ (ap (λ l. l ++ t) first ∙ append_assoc u s t)))

pub moves_more : (x y z : Bool) (a b c : Option (List ℕ)) (f g h : ℕ) (u v w s t : List ℕ)
    → f ≤ g → MovesText x y a b f g u v s → MovesText y z b c g h v w t → MovesText x z a c f h u w (s ++ t)
unfolding MovesText
moves_more false false false a b c f g h u v w s t up m n =
    (m.0 ++ n.0, Appends-trans a b c m.0 n.0 m.1 n.1, two_puts m.0 n.0 u v w s t m.2 n.2)
moves_more false false true a b c f g h u v w s t up m n =
    let same = sym (append_assoc m.0 v t)
    ∙ (ap (λ l. l ++ t) m.2 ∙ append_assoc u s t) in
    subst (BreaksOff a c f h) same (breaks_after a b c m.0 _ f g h m.1 up n)
moves_more false true false a b c f g h u v w s t up m n = absurd n
moves_more false true true a b c f g h u v w s t up m n =
    let whole : BreaksOff a b f g (u ++ (s ++ t)) =
    subst (BreaksOff a b f g) (append_assoc u s t) (breaks_before a b _ t f g m) in
    rw (n.0, n.1) whole
moves_more true false z a b c f g h u v w s t up m n = absurd m
moves_more true true false a b c f g h u v w s t up m n = absurd n
moves_more true true true a b c f g h u v w s t up m n = (n.0 ∙ m.0, n.1 ∙ m.1)

pub moves_none : (x : Bool) (a : Option (List ℕ)) (f : ℕ) (u : List ℕ) → MovesText x x a a f f u u []
unfolding MovesText
moves_none false a f u = ([], Appends-nil a, sym (append-nil u))
moves_none true a f u = (refl, refl)

module _ {O : Type 0} (taken : O → Option (List ℕ)) (faults : O → ℕ) where
  pub adds_none : (a : Gathered O) → AddsText taken faults a a []
  adds_none a = grind (arith, moves_none)

  -- once a put has failed, any text is added without a put
  pub adds_failed : (a : Gathered O) (text : List ℕ) → a.failed ≡ true → AddsText taken faults a a text
  unfolding MovesText
  adds_failed a text ill = (refl, le_refl _, rw ill (refl, refl))

  pub adds_more : (a b c : Gathered O) (s t : List ℕ) → AddsText taken faults a b s → AddsText taken faults b c t →
      AddsText taken faults a c (s ++ t)
  adds_more a b c s t first next = (
    next.0 ∙ first.0,
    le_trans first.1 next.1,
    moves_more a.failed b.failed c.failed _ _ _ _ _ _ _ _ _ s t first.1 first.2 next.2,
  )

  -- one more piece
  pub adds_at : (xs : List Piece) (i : ℕ) (d : Piece) (a b c : Gathered O) → i < length xs
      → AddsText taken faults a b (bytes_of (take i xs)) → AddsText taken faults b c (piece_bytes (get_or xs i d)) →
      AddsText taken faults a c (bytes_of (take (i + 1) xs))
  adds_at xs i d a b c within first next =
      rw (bytes_take xs i d within) (adds_more a b c (bytes_of (take i xs)) (piece_bytes (get_or xs i d)) first next)

  -- the words of one more item
  pub adds_word : {X : Type 0} (word : X → List ℕ) (xs : List X) (i : ℕ) (d : X) (a b c : Gathered O) → i < length xs
      → AddsText taken faults a b (flat_map word (take i xs)) → AddsText taken faults b c (word (get_or xs i d)) →
      AddsText taken faults a c (flat_map word (take (i + 1) xs))
  adds_word word xs i d a b c within first next =
      rw (words_take word xs i d within) (adds_more a b c (flat_map word (take i xs)) _ first next)

-- all that was added is put
pub ended_whole : (a b : Option (List ℕ)) (f g : ℕ) (text : List ℕ) → MovesText false false a b f g [] [] text →
    Appends a b text
unfolding MovesText
ended_whole a b f g text m = grind (arith, append-nil)

pub ended_part : (a b : Option (List ℕ)) (f g : ℕ) (w text : List ℕ) → MovesText false true a b f g [] w text →
    BreaksOff a b f g text
unfolding MovesText
ended_part a b f g w text m = m

module _ {O : Type 0} (taken : O → Option (List ℕ)) (faults : O → ℕ) where
  -- from nothing waiting to nothing waiting: the sink took the text, or a front of it if a put failed
  pub put_whole : {T E : Type 0} (old new : O) (a b c : Gathered O) (text : List ℕ) (r : Result T E) → a.to.now ≡ old →
      new ≡ c.to.now → a.failed ≡ false → a.waiting ≡ []
      → AddsText taken faults a b text → AddsText taken faults b c [] → c.waiting ≡ [] → OnOk r (c.failed ≡ false) →
      OnOk r (Appends (taken old) (taken new) text)
  put_whole old new a b c text r from to sound none first last empty =
      on_ok_weaker r
      (λ well.
      rw to (ended_whole _ _ _ _ text (rw (append-nil, from, sound, none, empty, well) at (adds_more taken faults a b c text [] first last).2)))

  pub put_part : {T E : Type 0} (old new : O) (a b c : Gathered O) (text : List ℕ) (r : Result T E) → a.to.now ≡ old →
      new ≡ c.to.now → a.failed ≡ false → a.waiting ≡ []
      → AddsText taken faults a b text → AddsText taken faults b c [] → OnErr r (c.failed ≡ true) →
      OnErr r (BreaksOff (taken old) (taken new) (faults old) (faults new) text)
  put_part old new a b c text r from to sound none first last =
      on_err_weaker r
      (λ ill.
      rw to (ended_part _ _ _ _ c.waiting text (rw (append-nil, from, sound, none, ill) at (adds_more taken faults a b c text [] first last).2)))

  -- from an empty text that is made to one that is finished
  pub writes : {T E : Type 0} {old new : O} (a b c : Gathered O) {text : List ℕ} {r : Result T E} → a.to.now ≡ old →
      new ≡ c.to.now → a.failed ≡ false → a.waiting ≡ []
      → AddsText taken faults a b text → AddsText taken faults b c [] → c.waiting ≡ [] → OnOk r (c.failed ≡ false) →
      OnErr r (c.failed ≡ true)
      → Writes (record { taken = taken old; taken_after = taken new; before = faults old; after = faults new }) text r
  writes {T} {E} {old} {new} a b c {text} {r} from to sound none first last empty well ill = grind (arith, adds_more, put_whole, put_part)

-- a put of a text, or a failed one
pub moves_put : {T E : Type 0} (r : Result T E) (a b : Option (List ℕ)) (f g : ℕ) (text : List ℕ)
    → OnOk r (Appends a b text) → OnErr r (AppendsPart a b text) → OnErr r (Rose f g) →
    MovesText false (is_err r) a b f g [] [] text
unfolding MovesText
moves_put (Ok x) a b f g text whole part rose = (text, whole, append-nil text)
moves_put (Err e) a b f g text whole part rose = (part, rose)

-- what waited was put
pub moves_waiting : (x y : Bool) (a b : Option (List ℕ)) (f g : ℕ) (u : List ℕ) → MovesText x y a b f g [] [] u →
    MovesText x y a b f g u [] []
unfolding MovesText
moves_waiting false false a b f g u m = (m.0, m.1, m.2 ∙ sym (append-nil u))
moves_waiting false true a b f g u m = subst (BreaksOff a b f g) (sym (append-nil u)) m
moves_waiting true false a b f g u m = absurd m
moves_waiting true true a b f g u m = m

pub moves_nothing : (a : Option (List ℕ)) (f : ℕ) (text : List ℕ) → MovesText true true a a f f [] [] text
unfolding MovesText
moves_nothing a f text = (refl, refl)

-- more waits
pub moves_wait : (x : Bool) (a : Option (List ℕ)) (f : ℕ) (u w text : List ℕ) → w ≡ u ++ text →
    MovesText x x a a f f u w text
unfolding MovesText
moves_wait false a f u w text more = ([], Appends-nil a, more)
moves_wait true a f u w text more = (refl, refl)
