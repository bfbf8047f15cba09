-- The pieces of a text from a place on.
use Rattle.std.proofs.Common.{◌≡◌, ◌≢◌, ℕ, zero, suc, ◌+◌, ◌-◌, ◌<◌, ◌≤◌, Bool, true, false, ◌&&◌, ◌==◌, if◌then◌else◌}
use Rattle.std.proofs.Common.{List, [], ◌∷◌, map, length, take, drop, get_or, refl, sym, ap, ◌∙◌, arith, add-one}
use Rattle.std.proofs.Common.{length-drop, ◌++◌, append_assoc, append-nil, length-append}
use Rattle.std.proofs.Math.Seq.{drop-cons, take-length}
use Rattle.std.proofs.lemmas.List.{length-map, length-take-le}
use Rattle.std.specs.List.{list_all}
use Rattle.ra_words.specs.Numbers.{is_number, decimal_worth}
use Rattle.std.proofs.lemmas.Grind.{common_steps}
use Rattle.ra_words.specs.LotTexts.{first_place, in_front, pieces, piece_at}

next_by : (byte separator n : ℕ) → byte ≢ separator → (if byte == separator then 0 else suc n) ≡ 1 + n
next_by byte separator n other = grind (arith, common_steps)

module _ (separator : ℕ) where
  pub place_within : (text : List ℕ) → first_place separator text ≤ length text
  unfolding first_place
  place_within [] = omega arith
  place_within (byte ∷ bytes) =
      let h : first_place separator bytes ≤ length bytes = place_within bytes in grind (arith, common_steps)

  module _ (text : List ℕ) (k : ℕ) (within : k < length text) where
    pub place_here : get_or text k 0 ≡ separator → first_place separator (drop k text) ≡ 0
    unfolding first_place
    place_here here = rw (drop-cons text k 0 within) (grind (arith, common_steps))

    pub place_next : get_or text k 0 ≢ separator →
        first_place separator (drop k text) ≡ 1 + first_place separator (drop (k + 1) text)
    unfolding first_place
    place_next other =
        rw (drop-cons text k 0 within, add-one)
        (next_by (get_or text k 0) separator (first_place separator (drop (suc k) text)) other)

  pub place_end : (text : List ℕ) (k : ℕ) → length text ≤ k → first_place separator (drop k text) ≡ 0
  unfolding first_place
  place_end [] zero past = refl
  place_end [] (suc k) past = refl
  place_end (byte ∷ bytes) zero past = absurd (omega arith)
  place_end (byte ∷ bytes) (suc k) past = place_end bytes k (omega arith)

-- the pieces that begin at a place or after it, if a piece begins at that place; none after the end
unfoldable pub left_from : List ℕ → ℕ → List (List ℕ)
left_from text zero = pieces text
left_from [] (suc k) = []
left_from (byte ∷ bytes) (suc k) = left_from bytes k

split_by : (byte : ℕ) (bytes : List ℕ) (test : Bool) → (byte == 44) ≡ test →
    pieces bytes ≡ take (first_place 44 bytes) bytes ∷ left_from bytes (suc (first_place 44 bytes))
    → (if test then [] ∷ pieces bytes else in_front byte (pieces bytes)) ≡
    take (if test then 0 else suc (first_place 44 bytes)) (byte ∷ bytes) ∷ left_from (byte ∷ bytes)
    (suc (if test then 0 else suc (first_place 44 bytes)))
unfolding left_from in_front
split_by byte bytes true is h = refl
split_by byte bytes false is h = ap (in_front byte) h

-- the first piece, and those after its comma
pub first_piece : (text : List ℕ) → pieces text ≡ take (first_place 44 text) text ∷ left_from text
    (suc (first_place 44 text))
unfolding pieces first_place left_from in_front
first_piece [] = refl
first_piece (byte ∷ bytes) = split_by byte bytes (byte == 44) refl (first_piece bytes)

-- the place after a piece and its comma
split_at : (text : List ℕ) (start k : ℕ) → k ≡ start + first_place 44 (drop start text) + 1 → start ≤ length text →
    left_from text start ≡ piece_at text start ∷ left_from text k
unfolding left_from piece_at
split_at text zero k is within = let e : suc (first_place 44 text) ≡ k = omega arith in first_piece text
    ∙ ap (λ j. take (first_place 44 text) text ∷ left_from text j) e
split_at [] (suc start) k is within = absurd (omega arith)
split_at (byte ∷ bytes) (suc start) zero is within = absurd (omega arith)
split_at (byte ∷ bytes) (suc start) (suc k) is within = split_at bytes start k (omega arith) (omega arith)

pub left_past : (text : List ℕ) (start : ℕ) → length text < start → left_from text start ≡ []
unfolding left_from
left_past text zero past = absurd (omega arith)
left_past [] (suc start) past = refl
left_past (byte ∷ bytes) (suc start) past = left_past bytes start (omega arith)

-- the numbers before a place are put into a list
pub record IsPut (text : List ℕ) (start : ℕ) (list : List ℕ) : Type 0 where
  pub within : start ≤ length text + 1
  pub all : list_all is_number (left_from text start) ≡ true
  pub put : list ++ map decimal_worth (left_from text start) ≡ map decimal_worth (pieces text)

module _ (text : List ℕ) where
  pub none_put : (list : List ℕ) → list_all is_number (pieces text) ≡ true → list ≡ [] → IsPut text 0 list
  unfolding left_from
  none_put list all none = record {
    within = omega arith;
    all = all;
    put = ap (λ ns. ns ++ map decimal_worth (pieces text)) none;
  }

  module _ (start : ℕ) where
    -- a slice to the end
    pub all_from : take (length text - start) (drop start text) ≡ drop start text
    all_from = ap (λ n. take n (drop start text)) (sym (length-drop start text)) ∙ take-length (drop start text)

    piece_length : length (piece_at text start) ≡ first_place 44 (drop start text)
    unfolding piece_at
    piece_length =
        length-take-le (first_place 44 (drop start text)) (drop start text) (place_within 44 (drop start text))

    module _ (within : start ≤ length text) where
      -- the piece at a place, and those after its comma
      pub next_piece : left_from text start ≡
          piece_at text start ∷ left_from text (start + length (piece_at text start) + 1)
      next_piece = split_at text start _ (omega (arith, piece_length)) within

      pub piece_refused : is_number (piece_at text start) ≡ false → list_all is_number (left_from text start) ≡ false
      piece_refused refused = rw (next_piece, refused) refl

      pub piece_accepted : is_number (piece_at text start) ≡ true →
          list_all is_number (left_from text start) ≡
          list_all is_number (left_from text (start + length (piece_at text start) + 1))
      piece_accepted passed = ap (list_all is_number) (next_piece)
          ∙ ap (λ b. b && list_all is_number (left_from text (start + length (piece_at text start) + 1))) passed

      pub piece_told : list_all is_number (left_from text start) ≡ true → is_number (piece_at text start) ≡ true
      piece_told all = let h = rw next_piece at all in grind (arith, common_steps)

      pub piece_counted : length (left_from text start) ≡
          1 + length (left_from text (start + length (piece_at text start) + 1))
      piece_counted = ap length next_piece ∙ omega arith

      pub piece_valued : map decimal_worth (left_from text start) ≡
          decimal_worth (piece_at text start) ∷ map decimal_worth (left_from text (start + length (piece_at text start)
          + 1))
      piece_valued = ap (map decimal_worth) (next_piece)

    module _ (list : List ℕ) where
      pub piece_read : (piece : List ℕ) → IsPut text start list → start ≤ length text → piece ≡ piece_at text start →
          is_number piece ≡ true
      piece_read piece is within read = ap is_number read ∙ piece_told within is.all

      -- there is room for one more
      pub one_room : IsPut text start list → start ≤ length text → length list < length (pieces text)
      one_room is within =
          let e : length list + length (map decimal_worth (left_from text start)) ≡ length
          (map decimal_worth (pieces text)) =
          sym (length-append list (map decimal_worth (left_from text start))) ∙ ap length is.put in
          omega (
            arith,
            length-map (left_from text start) decimal_worth,
            length-map (pieces text) decimal_worth,
            piece_counted within,
          )

      pub one_put : (more piece : List ℕ) (number : ℕ) → IsPut text start list → start ≤ length text →
          piece ≡ piece_at text start → length piece + start ≤ length text → number ≡ decimal_worth piece →
          more ≡ list ++ number ∷ [] → IsPut text (start + length piece + 1) more
      one_put more piece number is within read end worth_is added =
          let next : ℕ = start + length (piece_at text start) + 1 in
          let same : next ≡ start + length piece + 1 = ap (λ p. start + length p + 1) (sym read) in
          let last : number ≡ decimal_worth (piece_at text start) = worth_is ∙ ap decimal_worth read in
          record {
            within = omega arith;
            all = ap (λ k. list_all is_number (left_from text k)) (sym same)
                ∙ (sym (piece_accepted within (piece_told within is.all)) ∙ is.all);
            put =
                ap (λ ns. ns ++ map decimal_worth (left_from text (start + length piece + 1))) added
                ∙ append_assoc list (number ∷ []) (map decimal_worth (left_from text (start + length piece + 1)))
                ∙ ap (λ k. list ++ number ∷ map decimal_worth (left_from text k)) (sym same)
                ∙ ap (λ n. list ++ n ∷ map decimal_worth (left_from text next)) last
                ∙ ap (λ ns. list ++ ns) (sym (piece_valued within))
                ∙ is.put;
          }

      pub all_put : IsPut text start list → length text < start → list ≡ map decimal_worth (pieces text)
      all_put is past =
          sym (append-nil list) ∙ ap (λ ps. list ++ map decimal_worth ps) (sym (left_past text start past)) ∙ is.put
