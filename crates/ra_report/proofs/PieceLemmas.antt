-- What a sink has taken after one text and then another.
use Rattle.std.proofs.Common.{◌≡◌, ℕ, ◌+◌, ◌<◌, ◌≤◌, List, [], ◌∷◌, ◌++◌, length, take, get_or, Option, refl, sym, ◌∙◌, ap, append_assoc, arith, length-append}
use Rattle.std.proofs.lemmas.List.{append-nil, take-append-le, take_more}
use Rattle.std.proofs.Math.Seq.{take-append-add}
use Rattle.std.proofs.lemmas.Grind.{flat_map-append}
use Rattle.std.specs.List.{flat_map}
use Rattle.std.specs.Io.KnownBytes.{Appends}
use Rattle.std.proofs.KnownBytes.{Appends-trans}
use Rattle.ra_io.specs.Faults.{Rose}
use Rattle.ra_io.specs.Pieces.{AppendsPart}
use Rattle.ra_report.specs.declared.pieces.Piece.{Piece}
use Rattle.ra_report.specs.Pieces.{bytes_of, piece_bytes, BreaksOff}

-- a front of the second text, after the whole first one
pub part_after : (a b c : Option (List ℕ)) (s t : List ℕ) → Appends a b s → AppendsPart b c t → AppendsPart a c (s ++ t)
part_after a b c s t first part =
    let same = take-append-add s t part.0 in
    let short : length s + part.0 ≤ length (s ++ t) =
    rw length-append (let h = part.1 in omega arith) in
    (length s + part.0, short, rw same (Appends-trans a b c s (take part.0 t) first part.2))

-- a front of the first text is a front of both
pub part_before : (a c : Option (List ℕ)) (s t : List ℕ) → AppendsPart a c s → AppendsPart a c (s ++ t)
part_before a c s t part = grind (arith, take-append-le, length-append)

-- a count that rose later rose
pub rose_later : (a b c : ℕ) → a ≤ b → Rose b c → Rose a c
rose_later a b c never_fell rose = grind arith

pub breaks_after : (a b c : Option (List ℕ)) (s t : List ℕ) (f g h : ℕ) → Appends a b s → f ≤ g → BreaksOff b c g h t →
    BreaksOff a c f h (s ++ t)
breaks_after a b c s t f g h first never_fell breaks =
    (part_after a b c s t first breaks.0, rose_later f g h never_fell breaks.1)

pub breaks_before : (a c : Option (List ℕ)) (s t : List ℕ) (f g : ℕ) → BreaksOff a c f g s → BreaksOff a c f g (s ++ t)
breaks_before a c s t f g breaks = (part_before a c s t breaks.0, breaks.1)

pub bytes_append : (xs ys : List Piece) → bytes_of (xs ++ ys) ≡ bytes_of xs ++ bytes_of ys
bytes_append [] ys = refl
bytes_append (x ∷ xs) ys = ap (λ (t : List ℕ). piece_bytes x ++ t) (bytes_append xs ys)
    ∙ sym (append_assoc (piece_bytes x) (bytes_of xs) (bytes_of ys))

-- one more piece
pub bytes_take : (xs : List Piece) (i : ℕ) (d : Piece) → i < length xs →
    bytes_of (take (i + 1) xs) ≡ bytes_of (take i xs) ++ piece_bytes (get_or xs i d)
bytes_take xs i d within =
    let more : take (i + 1) xs ≡ take i xs ++ get_or xs i d ∷ [] = take_more xs i d within in
    ap bytes_of more ∙ bytes_append (take i xs) (get_or xs i d ∷ [])
    ∙ ap (λ (t : List ℕ). bytes_of (take i xs) ++ t) (append-nil (piece_bytes (get_or xs i d)))

-- the words of one more item
pub words_take : {X : Type 0} (word : X → List ℕ) (xs : List X) (i : ℕ) (d : X) → i < length xs →
    flat_map word (take (i + 1) xs) ≡ flat_map word (take i xs) ++ word (get_or xs i d)
words_take word xs i d within =
    ap (flat_map word) (take_more xs i d within)
    ∙ (flat_map-append word (take i xs) (get_or xs i d ∷ []) ∙ ap (λ t. flat_map word (take i xs) ++ t)
    (append-nil _))
